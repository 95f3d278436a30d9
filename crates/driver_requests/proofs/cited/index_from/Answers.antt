use Rattle.std.proofs.Common.{◌≤◌, length, sym, ap, ◌∙◌, arith}
use Rattle.driver_requests.proofs.EntriesFound.{first_here, first_nowhere, first_past}
use Rattle.driver_requests.proofs.cited.index_from.Goals as goal

pub loop-index-preserved : goal.loop-index-preserved
loop-index-preserved g c =
    first_past (g.T.PartialEq.eq c.args.entry.now) c.args.entries.now c.loop-index.index c.index-entries-index.result c.loop-index-test.true c.index-entries-index.is (ap (λ b. g.T.PartialEq.eq c.args.entry.now b.now) c.index-entries-index.is ∙ sym c.eq.ensures ∙ c.if-eq.false) c.loop-index.invariant

pub returns-then-eq : goal.returns-then-eq
returns-then-eq g c =
    first_here (g.T.PartialEq.eq c.args.entry.now) c.args.entries.now c.loop-index.index c.index-entries-index.result c.loop-index-test.true c.index-entries-index.is (ap (λ b. g.T.PartialEq.eq c.args.entry.now b.now) c.index-entries-index.is ∙ sym c.eq.ensures ∙ c.if-eq.true) c.loop-index.invariant

pub returns : goal.returns
returns g c =
    let over : length c.args.entries.now ≤ c.loop-index.index = omega (arith, c.loop-index-test.false) in
    first_nowhere (g.T.PartialEq.eq c.args.entry.now) c.args.entries.now c.loop-index.index over c.loop-index.invariant
