use Rattle.std.proofs.Common.{ℕ, List, Vec, Global, length, slice_get, sym, ap, subst, ◌∙◌, arith}
use Rattle.std.proofs.lemmas.List.{length-map}
use Rattle.reference_graph.specs.References.{lists}
use Rattle.reference_graph.proofs.OrderUses.{none_circular}
use Rattle.biblatex_inheritance.specs.Solution.{IsFirst}
use Rattle.biblatex_inheritance.proofs.SolutionAlong.{circular_below, not_marked}
use Rattle.biblatex_suppliers.specs.Suppliers.{fault_of}
use Rattle.biblatex_suppliers.specs.declared.supplier.Supplies.{Supplies}
use Rattle.biblatex_suppliers.specs.Written.{written_view}
use Rattle.biblatex_suppliers.proofs.AlongOrder.{all_seen, fault_is, first_is}
use Rattle.biblatex_suppliers.proofs.along.all_supplies.Goals as goal

pub returns-in-Some-clause-refused : goal.returns-in-Some-clause-refused
returns-in-Some-clause-refused c =
    let R = lists c.args.references.now in
    let long = length-map c.args.references.now (λ (v : Vec ℕ Global). v.items) in
    let is = (c.in_ok-order.ensures.circular c.in-Some.number).0 c.in-Some.ensures.0 in
    let low = circular_below R c.in-Some.number is in
    (omega (arith, long, low, c.requires), is, λ k less circular. not_marked R c.in_ok-order.order.circular k c.in_ok-order.ensures.circular (c.in-Some.ensures.1 k less) circular)

pub supplies_along-requires-clause-none : goal.supplies_along-requires-clause-none
supplies_along-requires-clause-none c = none_circular (lists c.args.references.now) c.in_ok-order.order.circular c.in_ok-order.ensures.circular c.in_default.ensures

pub returns-in-Some-first_unreadable-clause-refused : goal.returns-in-Some-first_unreadable-clause-refused
returns-in-Some-first_unreadable-clause-refused c =
    let ss = c.in_ok-supplies.supplies.items in (
      none_circular (lists c.args.references.now) c.in_ok-order.order.circular c.in_ok-order.ensures.circular c.in_default.ensures,
      first_is (written_view c.args.entries.now) (lists c.args.references.now) ss c.in-Some-first_unreadable.fault c.in_ok-supplies.ensures
          (subst (λ (xs : List Supplies). IsFirst (λ i. fault_of (slice_get xs i)) c.in-Some-first_unreadable.fault) c.deref.ensures.value c.in-Some-first_unreadable.ensures),
    )

pub returns-clause-seen : goal.returns-clause-seen
returns-clause-seen c = λ see solves. all_seen (written_view c.args.entries.now) (lists c.args.references.now) c.in_ok-supplies.supplies.items see c.in_ok-supplies.ensures solves

pub returns-clause-readable : goal.returns-clause-readable
returns-clause-readable c = λ see solves i low.
    let es = written_view c.args.entries.now in
    let ss = c.in_ok-supplies.supplies.items in
    sym (fault_is es (lists c.args.references.now) ss see c.in_ok-supplies.ensures solves i low)
    ∙ (ap (λ (xs : List Supplies). fault_of (slice_get xs i)) (sym c.deref.ensures.value)
    ∙ c.in-None.ensures i (omega (arith, low, c.in_ok-supplies.ensures.long, ap length c.deref.ensures.value)))

pub returns-clause-acyclic : goal.returns-clause-acyclic
returns-clause-acyclic c = none_circular (lists c.args.references.now) c.in_ok-order.order.circular c.in_ok-order.ensures.circular c.in_default.ensures
