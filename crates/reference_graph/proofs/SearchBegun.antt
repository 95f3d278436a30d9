-- Before the first step.
use Rattle.std.proofs.Common.{◌≡◌, ℕ, ◌<◌, ◌≤◌, ◌⊎◌, inl, inr, List, [], false, map, replicate, length, sym, ap, ◌∙◌, arith}
use Rattle.std.proofs.lemmas.List.{length-replicate, length-map, get_or-replicate, get_or_past, get_or-map}
use Rattle.std.proofs.lemmas.Bool.{cases_lt}
use Rattle.reference_graph.specs.References.{references_of}
use Rattle.reference_graph.specs.declared.search.Visit.TheVariants.{New, Done}
use Rattle.reference_graph.specs.Search.{visit_of, unread_of, begun}
use Rattle.reference_graph.specs.Invariant.{IsInvariant, tally}
use Rattle.reference_graph.specs.Order.{is_marked}

begun_visit : (R : List (List ℕ)) (v : ℕ) → ((v < length R) × (visit_of (begun R) v ≡ New)) ⊎ ((length R ≤ v) × (visit_of (begun R) v ≡ Done))
begun_visit R v = elim (cases_lt v (length R)) [
  | inl lt ↦ inl (lt, get_or-replicate (length R) v New Done lt)
  | inr ge ↦ inr (ge, get_or_past (replicate (length R) New) v Done (let l = length-replicate (length R) New in omega arith))
]

begun_unread : (R : List (List ℕ)) (v : ℕ) → unread_of (begun R) v ≡ length (references_of R v)
begun_unread R v = elim (cases_lt v (length R)) [
  | inl lt ↦ get_or-map (λ (r : List ℕ). length r) R v [] 0 lt
  | inr ge ↦
      let l = length-map R (λ (r : List ℕ). length r) in
      get_or_past (map (λ (r : List ℕ). length r) R) v 0 (omega arith) ∙ sym (ap (λ (r : List ℕ). length r) (get_or_past R v [] ge))
]

begun_mark : (R : List (List ℕ)) (v : ℕ) → is_marked (replicate (length R) false) v ≡ false
begun_mark R v = elim (cases_lt v (length R)) [
  | inl lt ↦ get_or-replicate (length R) v false false lt
  | inr ge ↦ get_or_past (replicate (length R) false) v false (let l = length-replicate (length R) false in omega arith)
]

nothing_in : (R : List (List ℕ)) (v r : ℕ) → length R ≤ v → (k : ℕ) → k < length (references_of R v) → ⊥
nothing_in R v r ge k h =
    let e : length (references_of R v) ≡ 0 = ap (λ (x : List ℕ). length x) (get_or_past R v [] ge) in
    omega arith

pub begun_invariant : (R : List (List ℕ)) → IsInvariant R (begun R)
begun_invariant R = record {
  visits_long = length-replicate (length R) New;
  unread_long = length-map R (λ (r : List ℕ). length r);
  marks_long = length-replicate (length R) false;
  visited = λ i h. absurd (omega arith);
  found = λ v i e. elim (begun_visit R v) [ inl p ↦ absurd cc | inr p ↦ absurd cc ];
  within = λ v. let e = begun_unread R v in omega arith;
  fresh = λ v e. begun_unread R v;
  reading_rises = λ i j h lt. absurd (omega arith);
  reading_found = λ f c. absurd (omega (arith, c.1));
  starts_rise = λ i j h lt. absurd (omega arith);
  starts_read = λ b c. absurd (omega (arith, c.1));
  starts_first = λ h. absurd (omega arith);
  read = λ i h. absurd (omega arith);
  joined = λ i j hi hj none. absurd (omega arith);
  settled = λ i j hi low high. absurd (omega arith);
  closed = λ v r e c. elim (begun_visit R v) [ inl p ↦ absurd cc | inr p ↦ absurd (nothing_in R v r p.0 c.0 c.1) ];
  sound = λ v e. let f = begun_mark R v in absurd cc;
  complete = λ v e c. elim (begun_visit R v) [ inl p ↦ absurd cc | inr p ↦ absurd (nothing_in R v v p.0 c.1.1.0 c.1.1.1) ];
  listed = λ v e lt. elim (begun_visit R v) [ inl p ↦ absurd cc | inr p ↦ absurd (omega arith) ];
  once = λ v lt. elim (begun_visit R v) [ inl p ↦ sym (ap tally p.1) | inr p ↦ absurd (omega arith) ];
  below = λ k d h. absurd (omega arith);
  ordered = λ k h. absurd (omega arith);
}
