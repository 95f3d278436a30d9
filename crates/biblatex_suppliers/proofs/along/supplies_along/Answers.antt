use Rattle.std.proofs.Common.{ℕ, List, Vec, Global, get_or, slice_get, subst, ◌∙◌, arith}
use Rattle.std.proofs.lemmas.List.{take_all, length-map, length-set}
use Rattle.reference_graph.specs.References.{lists, references_of}
use Rattle.biblatex_inheritance.specs.Resolved.{offers}
use Rattle.biblatex_suppliers.specs.Suppliers.{seen}
use Rattle.biblatex_suppliers.specs.Seen.{AreSuppliedAt}
use Rattle.biblatex_suppliers.specs.declared.supplier.Supplies.{Supplies}
use Rattle.biblatex_suppliers.specs.Written.{written_view}
use Rattle.biblatex_suppliers.proofs.AlongOrder.{AreKnown, known_more, all_known}
use Rattle.biblatex_suppliers.proofs.along.supplies_along.Goals as goal

pub loop-number-init : goal.loop-number-init
loop-number-init c = (c.in_ok-supplies.ensures ∙ c.len.ensures, λ see solves i has. absurd (omega (arith, has.1)))

pub loop-number-preserved : goal.loop-number-preserved
loop-number-preserved c =
    let es = written_view c.args.entries.now in
    let refs = c.args.references.now in
    let n = get_or c.args.order.now c.loop-number.number-index 0 in
    let long = length-map refs (λ (v : Vec ℕ Global). v.items) in
    let ss = c.loop-number.supplies.items in
    let one = subst (λ (xs : List Supplies). AreSuppliedAt es (offers es (seen es xs) (references_of (lists refs) n)) (slice_get es n) c.in_ok-supplies-2.field-0) c.deref.ensures.value c.in_ok-supplies-2.ensures in (
      length-set ss n c.in_ok-supplies-2.field-0 ∙ c.loop-number.invariant.0,
      known_more es (lists refs) c.args.order.now c.loop-number.number-index ss c.in_ok-supplies-2.field-0 c.requires.order c.requires.none (long ∙ c.requires.same) c.loop-number-test.true c.loop-number.invariant.0
          c.loop-number.invariant.1 one,
    )

pub returns : goal.returns
returns c =
    let es = written_view c.args.entries.now in
    let refs = c.args.references.now in
    let long = length-map refs (λ (v : Vec ℕ Global). v.items) in
    let ss = c.loop-number.supplies.items in
    all_known es (lists refs) c.args.order.now ss c.requires.order (long ∙ c.requires.same) c.loop-number.invariant.0
    (subst (λ (xs : List ℕ). AreKnown es (lists refs) ss xs) (take_all c.loop-number.number-index c.args.order.now (omega arith)) c.loop-number.invariant.1)
