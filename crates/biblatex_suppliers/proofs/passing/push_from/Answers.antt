use Rattle.std.proofs.Common.{slice_get, ap, ◌∙◌}
use Rattle.std.proofs.lemmas.Result.{on_ok_weaker}
use Rattle.biblatex_fields.specs.Fields.{value_named}
use Rattle.biblatex_inheritance.specs.Resolved.{first, first_offer, offer_if}
use Rattle.biblatex_suppliers.specs.Suppliers.{supplied_fields, seen}
use Rattle.biblatex_suppliers.specs.Written.{written_view}
use Rattle.biblatex_suppliers.proofs.PassingAsked.{offer_there, offer_nowhere, nothing_more}
use Rattle.biblatex_suppliers.proofs.passing.push_from.Goals as goal

pub returns-in-Some : goal.returns-in-Some
returns-in-Some c =
    let es = written_view c.args.entries.now in
    let r = c.args.reference in
    on_ok_weaker c.push_offered.result (λ passes q asks.
    passes q asks ∙ ap (first (value_named q (supplied_fields es c.args.suppliers.now.items))) (offer_there c.args.role c.in-Some.from r (slice_get es r) (seen es c.args.supplies.now r) q c.in-Some.ensures)) c.push_offered.ensures

pub returns-in-None : goal.returns-in-None
returns-in-None c = λ q asks.
    let es = written_view c.args.entries.now in
    let r = c.args.reference in
    nothing_more (value_named q (supplied_fields es c.args.suppliers.now.items)) (first_offer c.args.role (offer_if r (slice_get es r) (seen es c.args.supplies.now r)) q)
    (offer_nowhere c.args.role r (slice_get es r) (seen es c.args.supplies.now r) q c.in-None.ensures)
