-- After the last step.
use Rattle.std.proofs.Common.{◌≡◌, ℕ, ◌<◌, inl, inr, List, [], count_by, eqb, length, refl, ap, arith}
use Rattle.std.proofs.lemmas.List.{nil_from_length}
use Rattle.std.proofs.lemmas.Bool.{cases_lt}
use Rattle.reference_graph.specs.Order.{MarksCircular, IsOrder}
use Rattle.reference_graph.specs.declared.search.Visit.{Visit}
use Rattle.reference_graph.specs.declared.search.Visit.TheVariants.{New, At, Done}
use Rattle.reference_graph.specs.Search.{State, visit_of}
use Rattle.reference_graph.specs.Invariant.{IsInvariant, IsMet, tally}
use Rattle.reference_graph.proofs.SearchVisits.{there_is}

done_of : (p : Visit) → (p ≡ New → ⊥) → ((i : ℕ) → p ≡ At i → ⊥) → p ≡ Done
done_of New a b = absurd (a refl)
done_of (At i) a b = absurd (b i refl)
done_of Done a b = refl

all_done : (R : List (List ℕ)) (s : State) → IsInvariant R s → ((v : ℕ) → v < length R → IsMet s v) → s.path ≡ [] → (v : ℕ) → visit_of s v ≡ Done
all_done R s k met none v = done_of (visit_of s v)
    (λ e. let h = there_is s v New e (λ f. absurd cc) in let l = k.visits_long in met v (omega arith) e)
    (λ i e. let h = k.found v i e in let z : length s.path ≡ 0 = ap (λ (xs : List ℕ). length xs) none in omega arith)

pub ends_marked : (R : List (List ℕ)) (s : State) → IsInvariant R s → ((v : ℕ) → v < length R → IsMet s v) → s.path ≡ [] → MarksCircular R s.circular
ends_marked R s k met none i = (λ t. k.sound i t, λ c. k.complete i (all_done R s k met none i) c)

pub ends_ordered : (R : List (List ℕ)) (s : State) → IsInvariant R s → ((v : ℕ) → v < length R → IsMet s v) → s.path ≡ [] → IsOrder R s.order
ends_ordered R s k met none = record {
  once = λ i h.
      let a = k.once i h in
      let b : count_by (λ x. eqb x i) s.path ≡ 0 = ap (λ (xs : List ℕ). count_by (λ x. eqb x i) xs) none in
      let c : tally (visit_of s i) ≡ 1 = ap tally (all_done R s k met none i) in
      omega arith;
  below = k.below;
  following = k.ordered;
}

-- where nothing is being read the path is empty
pub path_empty : (R : List (List ℕ)) (s : State) → IsInvariant R s → length s.reading ≡ 0 → s.path ≡ []
path_empty R s k none = elim (cases_lt 0 (length s.path)) [
  | inl some ↦ let c = k.starts_read 0 (k.starts_first some) in absurd (omega (arith, c.1))
  | inr z ↦ nil_from_length s.path (omega arith)
]
