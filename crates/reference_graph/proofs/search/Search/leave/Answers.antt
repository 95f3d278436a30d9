use Rattle.std.proofs.Common.{◌≡◌, ℕ, ◌-◌, ◌<◌, List, length, get_or, take, refl, sym, ap, subst, ◌∙◌, arith}
use Rattle.reference_graph.specs.References.{lists}
use Rattle.reference_graph.specs.Search.{State, search_view, without_last, last, left, finished}
use Rattle.reference_graph.specs.Invariant.{IsStep}
use Rattle.reference_graph.proofs.SearchFollowing.{is_last}
use Rattle.reference_graph.proofs.SearchVisits.{path_below}
use Rattle.reference_graph.proofs.SearchStepping.{leave_step, finish_step}
use Rattle.reference_graph.proofs.SearchVectors.{lists_long, if_ok_then}
use Rattle.reference_graph.proofs.search.Search.leave.Goals as goal

pub is_ring-circular-requires-clause-start : goal.is_ring-circular-requires-clause-start
is_ring-circular-requires-clause-start c =
    (is_last (lists c.args.references.now) (search_view c.args.self.now) c.args.index c.requires.holds c.requires.some c.requires.last).inside

pub is_ring-circular-requires-clause-there : goal.is_ring-circular-requires-clause-there
is_ring-circular-requires-clause-there c =
    let R = lists c.args.references.now in
    let s = search_view c.args.self.now in
    let l = is_last R s c.args.index c.requires.holds c.requires.some c.requires.last in
    subst (λ (n : ℕ). get_or s.path c.args.index 0 < n) (lists_long c.args.references.now) (path_below R s c.requires.holds c.args.index l.inside)

pub finish-requires-clause-start : goal.finish-requires-clause-start
finish-requires-clause-start c =
    let inside = (is_last (lists c.args.references.now) (search_view c.args.self.now) c.args.index c.requires.holds c.requires.some c.requires.last).inside in
    omega arith

pub returns-then-ends_in : goal.returns-then-ends_in
returns-then-ends_in c =
    let R = lists c.args.references.now in
    let s = search_view c.args.self.now in
    let q = c.args.index in
    let ring = c.is_ring-circular.result in
    let begins = subst (λ (xs : List ℕ). (0 < length xs) × (last xs ≡ q)) c.deref.ensures.value (c.if-ends_in.ensures.0 refl) in
    let done = finish_step R s q ring c.requires.holds c.requires.some c.requires.last c.requires.whole begins c.is_ring-circular.ensures in
    if_ok_then c.finish.result (search_view c.finish.new.self ≡ finished (left s) q ring) (IsStep R s (search_view c.finish.new.self)) (λ e. subst (λ (x : State). IsStep R s x) (sym e) done) c.finish.ensures

pub returns : goal.returns
returns c =
    let R = lists c.args.references.now in
    let s = search_view c.args.self.now in
    let q = c.args.index in
    let other = λ (b : (0 < length s.starts) × (last s.starts ≡ q)). let t = c.if-ends_in.ensures.1 (subst (λ (xs : List ℕ). (0 < length xs) × (last xs ≡ q)) (sym c.deref.ensures.value) b) in let n : ⊥ = cc in n in
    let f : c.pop.new.self.items ≡ without_last s.reading = c.pop.ensures.rest ∙ ap (λ (n : ℕ). take (n - 1) s.reading) c.args.self.now.reading.ok.0 in
    rw f (leave_step R s q c.requires.holds c.requires.some c.requires.last c.requires.whole other)
