use Rattle.std.proofs.Common.{◌≡◌, ℕ, List, length, sym, ap, subst, ◌∙◌}
use Rattle.reference_graph.specs.References.{lists}
use Rattle.reference_graph.specs.declared.search.Visit.TheVariants.{New}
use Rattle.reference_graph.specs.Search.{State, search_view, visit_of}
use Rattle.reference_graph.proofs.SearchEntering.{entered_first, IsEntered}
use Rattle.reference_graph.proofs.SearchEnding.{path_empty}
use Rattle.reference_graph.proofs.SearchWeighing.{new_decided}
use Rattle.reference_graph.proofs.search.Search.visit.Goals as goal

pub loop-index-init : goal.loop-index-init
loop-index-init c =
    let R = lists c.args.references.now in
    let s = search_view c.args.self.now in
    let v = c.args.number in
    let new : visit_of s v ≡ New = new_decided (visit_of s v) (sym c.if-not-is_new.ensures) in
    let e = subst (λ (x : State). IsEntered R s x v) (sym c.in_ok-enter.ensures) (entered_first R s c.requires.holds v new c.requires.free) in
    record { holds = e.holds; met = e.met; itself = e.itself }

pub returns-clause-free : goal.returns-clause-free
returns-clause-free c =
    path_empty (lists c.args.references.now) (search_view c.loop-index.self) c.loop-index.invariant.holds (ap (λ (xs : List ℕ). length xs) (sym c.deref.ensures.value) ∙ c.in_default.ensures)
