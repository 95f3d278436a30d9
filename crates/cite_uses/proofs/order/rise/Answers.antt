use Rattle.std.proofs.Common.{arith}
use Rattle.cite_uses.proofs.IndicesSorted.{rise_all, rise_falls, rise_more, rise_none}
use Rattle.cite_uses.proofs.order.rise.Goals as goal

pub loop-pair-init : goal.loop-pair-init
loop-pair-init c = rise_none c.args.indices.now

pub loop-pair-preserved : goal.loop-pair-preserved
loop-pair-preserved c =
    rise_more c.args.indices.now c.loop-pair.pair-index c.loop-pair.last _ c.loop-pair-test.true (omega (arith, c.if-pair-last.false)) c.loop-pair.invariant

pub returns-then-pair-last : goal.returns-then-pair-last
returns-then-pair-last c =
    rise_falls c.args.indices.now c.loop-pair.pair-index c.loop-pair.last _ c.loop-pair-test.true c.if-pair-last.true c.loop-pair.invariant

pub returns : goal.returns
returns c = rise_all c.args.indices.now c.loop-pair.pair-index c.loop-pair.last (omega (arith, c.loop-pair-test.false)) c.loop-pair.invariant
