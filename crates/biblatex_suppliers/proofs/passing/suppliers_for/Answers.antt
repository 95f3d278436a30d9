use Rattle.std.proofs.Common.{refl}
use Rattle.biblatex_suppliers.specs.Suppliers.{supplied_fields, seen}
use Rattle.biblatex_suppliers.specs.Written.{written_view}
use Rattle.biblatex_suppliers.proofs.PassingAsked.{offers_more, offers_all}
use Rattle.biblatex_suppliers.proofs.passing.suppliers_for.Goals as goal

pub loop-reference-init : goal.loop-reference-init
loop-reference-init c = λ q asks. rw c.new-suppliers.ensures.items refl

pub loop-reference-preserved : goal.loop-reference-preserved
loop-reference-preserved c = λ q asks.
    let es = written_view c.args.entries.now in
    offers_more c.args.role es (seen es c.args.supplies.now) c.args.references.now c.loop-reference.reference-index _ (supplied_fields es c.loop-reference.suppliers.items) (supplied_fields es c.push_from.new.suppliers.items) q _ c.loop-reference-test.true
    (c.in_ok-push_from.ensures q asks) (c.loop-reference.invariant q asks)

pub returns : goal.returns
returns c = λ q asks.
    let es = written_view c.args.entries.now in
    offers_all c.args.role es (seen es c.args.supplies.now) c.args.references.now c.loop-reference.reference-index (supplied_fields es c.loop-reference.suppliers.items) q _ c.loop-reference-test.false (c.loop-reference.invariant q asks)
