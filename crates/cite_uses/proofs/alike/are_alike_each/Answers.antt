use Rattle.std.proofs.Common.{arith}
use Rattle.cite_uses.specs.Alike.{asked_names, asked_selectors, works_view}
use Rattle.cite_uses.proofs.AlikePairs.{known_again, known_all, known_more, known_none, known_not}
use Rattle.cite_uses.proofs.alike.are_alike_each.Goals as goal

pub loop-pair-init : goal.loop-pair-init
loop-pair-init c = known_none (asked_names c.args.asked.now) (asked_selectors c.args.asked.now) (works_view c.args.first.now) (works_view c.args.second.now) c.args.pairs.now

pub loop-pair-preserved-then-is_last : goal.loop-pair-preserved-then-is_last
loop-pair-preserved-then-is_last c =
    known_again (asked_names c.args.asked.now) (asked_selectors c.args.asked.now) (works_view c.args.first.now) (works_view c.args.second.now) c.args.pairs.now c.loop-pair.pair-index c.loop-pair.last
    _ c.is_last.result c.loop-pair-test.true c.is_last.ensures c.if-is_last.true c.loop-pair.invariant

pub loop-pair-preserved : goal.loop-pair-preserved
loop-pair-preserved c =
    known_more (asked_names c.args.asked.now) (asked_selectors c.args.asked.now) (works_view c.args.first.now) (works_view c.args.second.now) c.args.pairs.now c.loop-pair.pair-index c.loop-pair.last
    _ c.in_ok-are_alike_at.field-0 c.loop-pair-test.true c.in_ok-are_alike_at.ensures c.if-not-branch.false c.loop-pair.invariant

pub returns-then-not-branch : goal.returns-then-not-branch
returns-then-not-branch c =
    known_not (asked_names c.args.asked.now) (asked_selectors c.args.asked.now) (works_view c.args.first.now) (works_view c.args.second.now) c.args.pairs.now c.loop-pair.pair-index c.loop-pair.last
    _ c.in_ok-are_alike_at.field-0 c.loop-pair-test.true c.in_ok-are_alike_at.ensures c.if-not-branch.true c.loop-pair.invariant

pub returns : goal.returns
returns c =
    known_all (asked_names c.args.asked.now) (asked_selectors c.args.asked.now) (works_view c.args.first.now) (works_view c.args.second.now) c.args.pairs.now c.loop-pair.pair-index c.loop-pair.last
    (omega (arith, c.loop-pair-test.false)) c.loop-pair.invariant
