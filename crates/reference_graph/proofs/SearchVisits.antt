-- Where the search has each number, and what follows from it.
use Rattle.std.proofs.Common.{◌≡◌, ℕ, ◌<◌, ◌⊎◌, inl, inr, List, length, get_or, refl, ap, arith}
use Rattle.reference_graph.specs.declared.search.Visit.{Visit}
use Rattle.reference_graph.specs.declared.search.Visit.TheVariants.{New, At, Done}
use Rattle.reference_graph.specs.Search.{State, visit_of}
use Rattle.reference_graph.specs.Invariant.{IsInvariant}
use Rattle.reference_graph.proofs.SearchLists.{within_list}

pub new_or_met : (p : Visit) → (p ≡ New) ⊎ (p ≡ New → ⊥)
new_or_met New = inl refl
new_or_met (At i) = inr (λ e. absurd cc)
new_or_met Done = inr (λ e. absurd cc)

pub on_or_off : (p : Visit) → ((i : ℕ) × (p ≡ At i)) ⊎ ((i : ℕ) → p ≡ At i → ⊥)
on_or_off New = inr (λ i e. absurd cc)
on_or_off (At i) = inl (i, refl)
on_or_off Done = inr (λ i e. absurd cc)

-- a number that is not done is one that there is
pub there_is : (s : State) (v : ℕ) (p : Visit) → visit_of s v ≡ p → (p ≡ Done → ⊥) → v < length s.visits
there_is s v p e ne = within_list s.visits v p Done e ne

-- the numbers of the path differ
pub same_index : (R : List (List ℕ)) (s : State) → IsInvariant R s → (i j : ℕ) → i < length s.path → j < length s.path → get_or s.path i 0 ≡ get_or s.path j 0 → i ≡ j
same_index R s k i j hi hj e =
    let p : visit_of s (get_or s.path i 0) ≡ At i = k.visited i hi in
    let q : visit_of s (get_or s.path j 0) ≡ At j = k.visited j hj in
    let r : visit_of s (get_or s.path i 0) ≡ visit_of s (get_or s.path j 0) = ap (λ (v : ℕ). visit_of s v) e in
    cc

-- the numbers of the path are there
pub path_below : (R : List (List ℕ)) (s : State) → IsInvariant R s → (i : ℕ) → i < length s.path → get_or s.path i 0 < length R
path_below R s k i hi =
    let l = k.visits_long in
    let h = there_is s (get_or s.path i 0) (At i) (k.visited i hi) (λ e. absurd cc) in
    omega arith
