-- A number that is not met yet comes last on the path.
use Rattle.std.proofs.Common.{◌≡◌, ◌≢◌, ℕ, ◌+◌, ◌<◌, inl, inr, List, [], ◌∷◌, ◌++◌, Contains, Bool, cond, eqb, count_by, length, get_or, refl, sym, ap, subst, ◌∙◌, arith, length-set, eq-eqb, ne_eqb}
use Rattle.std.proofs.lemmas.List.{length_push}
use Rattle.std.proofs.lemmas.List.Sums.{sum_by_push}
use Rattle.std.proofs.lemmas.List.Elements.{Contains-append_left, Contains-push, Contains-push_cases}
use Rattle.reference_graph.specs.References.{references_of}
use Rattle.reference_graph.specs.declared.search.Visit.{Visit}
use Rattle.reference_graph.specs.declared.search.Visit.TheVariants.{New, At, Done}
use Rattle.reference_graph.specs.Search.{State, visit_of, unread_of, entered}
use Rattle.reference_graph.specs.Invariant.{IsInvariant, IsSettled, NoStart, Reaches, IsMet, tally}
use Rattle.reference_graph.proofs.SearchLists.{set_read, push_read, push_rises}
use Rattle.reference_graph.proofs.ReferencesWalks.{reaches_itself}
use Rattle.reference_graph.proofs.SearchVisits.{there_is}

-- other numbers stay where they are
stays_at : (s : State) (w v : ℕ) (p : Visit) → w < length s.visits → visit_of s w ≡ New → visit_of s v ≡ p → (p ≡ New → ⊥) → visit_of (entered s w) v ≡ p
stays_at s w v p there new e ne = elim (set_read s.visits w v (At (length s.path)) Done there) [
  | inl q ↦ let f : visit_of s v ≡ visit_of s w = ap (λ (y : ℕ). visit_of s y) q.0 in absurd (ne (sym e ∙ (f ∙ new)))
  | inr q ↦ q.1 ∙ e
]

was_at : (s : State) (w v : ℕ) (p : Visit) → w < length s.visits → visit_of (entered s w) v ≡ p → (At (length s.path) ≡ p → ⊥) → (v ≢ w) × (visit_of s v ≡ p)
was_at s w v p there e ne = elim (set_read s.visits w v (At (length s.path)) Done there) [
  | inl q ↦ absurd (ne (sym q.1 ∙ e))
  | inr q ↦ (q.0, sym q.1 ∙ e)
]

no_start_before : (s : State) (w i j : ℕ) → i < length s.path → NoStart s j i → NoStart (entered s w) j i
no_start_before s w i j hi none b c low high = elim (Contains-push_cases s.starts (length s.path) b c) [
  | inl h ↦ none b h low high
  | inr e ↦ omega arith
]

no_start_after : (s : State) (w i j : ℕ) → NoStart (entered s w) j i → NoStart s j i
no_start_after s w i j none b c low high = none b (Contains-append_left s.starts (length s.path ∷ []) b c) low high

still_settled : (s : State) (w i r : ℕ) → w < length s.visits → visit_of s w ≡ New → i < length s.path → IsSettled s i r → IsSettled (entered s w) i r
still_settled s w i r there new hi (inl d) = inl (stays_at s w r Done there new d (λ e. absurd cc))
still_settled s w i r there new hi (inr (j, a, none)) = inr (j, stays_at s w r (At j) there new a (λ e. absurd cc), no_start_before s w i j hi none)

counted_once : (s : State) (w v : ℕ) → w < length s.visits → visit_of s w ≡ New → count_by (λ x. eqb x v) s.order + count_by (λ x. eqb x v) s.path ≡ tally (visit_of s v) → count_by (λ x. eqb x v) s.order + count_by (λ x. eqb x v) (s.path ++ w ∷ []) ≡ tally (visit_of (entered s w) v)
counted_once s w v there new e =
    let p = sum_by_push (λ (x : ℕ). cond (eqb x v) 1 0) s.path w in
    elim (set_read s.visits w v (At (length s.path)) Done there) [
      | inl q ↦
          let one : cond {A = ℕ} (eqb w v) 1 0 ≡ 1 = ap (λ (b : Bool). cond {A = ℕ} b 1 0) (eq-eqb w v (sym q.0)) in
          let none : tally (visit_of s v) ≡ 0 = ap (λ (y : ℕ). tally (visit_of s y)) q.0 ∙ ap tally new in
          let now : tally (visit_of (entered s w) v) ≡ 1 = ap tally q.1 in
          omega arith
      | inr q ↦
          let nothing : cond {A = ℕ} (eqb w v) 1 0 ≡ 0 = ap (λ (b : Bool). cond {A = ℕ} b 1 0) (ne_eqb w v (λ f. q.0 (sym f))) in
          let now : tally (visit_of (entered s w) v) ≡ tally (visit_of s v) = ap tally q.1 in
          omega arith
    ]

pub entered_invariant : (R : List (List ℕ)) (s : State) → IsInvariant R s → (w : ℕ) → visit_of s w ≡ New → ((i : ℕ) → i < length s.path → Reaches R (get_or s.path i 0) w) → IsInvariant R (entered s w)
entered_invariant R s k w new reaches =
    let n = length s.path in
    let there : w < length s.visits = there_is s w New new (λ e. absurd cc) in
    let longer : length (s.path ++ w ∷ []) ≡ length s.path + 1 = length_push s.path w in
    record {
      visits_long = length-set s.visits w (At (length s.path)) ∙ k.visits_long;
      unread_long = k.unread_long;
      marks_long = k.marks_long;
      visited = λ i h. elim (push_read s.path w i h) [
        | inl p ↦ rw p.1 (stays_at s w (get_or s.path i 0) (At i) there new (k.visited i p.0) (λ e. absurd cc))
        | inr p ↦ elim (set_read s.visits w w (At (length s.path)) Done there) [
          | inl q ↦ rw p.1 (q.1 ∙ ap At (sym p.0))
          | inr q ↦ absurd (q.0 refl)
        ]
      ];
      found = λ v i e. elim (set_read s.visits w v (At (length s.path)) Done there) [
        | inl q ↦
            let same : At (length s.path) ≡ At i = sym q.1 ∙ e in
            let f : length s.path ≡ i = cc in
            let lt : i < length (s.path ++ w ∷ []) = omega arith in
            elim (push_read s.path w i lt) [
              | inl p ↦ absurd (omega arith)
              | inr p ↦ (lt, p.1 ∙ sym q.0)
            ]
        | inr q ↦
            let h = k.found v i (sym q.1 ∙ e) in
            let lt : i < length (s.path ++ w ∷ []) = omega arith in
            elim (push_read s.path w i lt) [
              | inl p ↦ (lt, p.1 ∙ h.1)
              | inr p ↦ absurd (omega arith)
            ]
      ];
      within = k.within;
      fresh = λ v e. k.fresh v ((was_at s w v New there e (λ f. absurd cc)).1);
      reading_rises = push_rises s.reading (length s.path) k.reading_rises k.reading_found;
      reading_found = λ f c. elim (Contains-push_cases s.reading (length s.path) f c) [
        | inl h ↦ let lt = k.reading_found f h in omega arith
        | inr e ↦ omega arith
      ];
      starts_rise = push_rises s.starts (length s.path) k.starts_rise (λ b c. k.reading_found b (k.starts_read b c));
      starts_read = λ b c. elim (Contains-push_cases s.starts (length s.path) b c) [
        | inl h ↦ Contains-append_left s.reading (length s.path ∷ []) b (k.starts_read b h)
        | inr e ↦ subst (λ (x : ℕ). Contains (s.reading ++ length s.path ∷ []) x) e (Contains-push s.reading (length s.path))
      ];
      starts_first = λ h. elim (push_read s.path w 0 h) [
        | inl p ↦ Contains-append_left s.starts (length s.path ∷ []) 0 (k.starts_first p.0)
        | inr p ↦ subst (λ (x : ℕ). Contains (s.starts ++ length s.path ∷ []) x) (sym p.0) (Contains-push s.starts (length s.path))
      ];
      read = λ i h. elim (push_read s.path w i h) [
        | inl p ↦ elim (k.read i p.0) [
          | inl c ↦ inl (Contains-append_left s.reading (length s.path ∷ []) i c)
          | inr z ↦ inr (ap (λ (x : ℕ). unread_of s x) p.1 ∙ z)
        ]
        | inr p ↦ inl (subst (λ (x : ℕ). Contains (s.reading ++ length s.path ∷ []) x) (sym p.0) (Contains-push s.reading (length s.path)))
      ];
      joined = λ i j hi hj none. elim (push_read s.path w i hi) [
        | inl p ↦ elim (push_read s.path w j hj) [
          | inl q ↦ rw (p.1, q.1) (k.joined i j p.0 q.0 (no_start_after s w i j none))
          | inr q ↦ rw (p.1, q.1) (reaches i p.0)
        ]
        | inr p ↦ elim (push_read s.path w j hj) [
          | inl q ↦ absurd (none (length s.path) (Contains-push s.starts (length s.path)) q.0 (omega arith))
          | inr q ↦ reaches_itself R (get_or (s.path ++ w ∷ []) i 0) (get_or (s.path ++ w ∷ []) j 0) (p.1 ∙ sym q.1)
        ]
      ];
      settled = λ i j hi low high. elim (push_read s.path w i hi) [
        | inl p ↦
            let f : unread_of s (get_or (s.path ++ w ∷ []) i 0) ≡ unread_of s (get_or s.path i 0) = ap (λ (x : ℕ). unread_of s x) p.1 in
            let g : length (references_of R (get_or (s.path ++ w ∷ []) i 0)) ≡ length (references_of R (get_or s.path i 0)) = ap (λ (x : ℕ). length (references_of R x)) p.1 in
            rw p.1 (still_settled s w i (get_or (references_of R (get_or s.path i 0)) j 0) there new p.0 (k.settled i j p.0 (omega arith) (omega arith)))
        | inr p ↦
            let f : unread_of s (get_or (s.path ++ w ∷ []) i 0) ≡ unread_of s w = ap (λ (x : ℕ). unread_of s x) p.1 in
            let g : length (references_of R (get_or (s.path ++ w ∷ []) i 0)) ≡ length (references_of R w) = ap (λ (x : ℕ). length (references_of R x)) p.1 in
            let z = k.fresh w new in
            absurd (omega arith)
      ];
      closed = λ v r e c. let d = k.closed v r ((was_at s w v Done there e (λ f. absurd cc)).1) c in stays_at s w r Done there new d (λ f. absurd cc);
      sound = k.sound;
      complete = λ v e. k.complete v ((was_at s w v Done there e (λ f. absurd cc)).1);
      listed = λ v e. k.listed v ((was_at s w v Done there e (λ f. absurd cc)).1);
      once = λ v h. counted_once s w v there new (k.once v h);
      below = k.below;
      ordered = k.ordered;
    }

pub entered_met : (s : State) (w v : ℕ) → visit_of s w ≡ New → IsMet s v → IsMet (entered s w) v
entered_met s w v new met e =
    let there : w < length s.visits = there_is s w New new (λ f. absurd cc) in
    met ((was_at s w v New there e (λ f. absurd cc)).1)

pub entered_itself : (s : State) (w : ℕ) → visit_of s w ≡ New → visit_of (entered s w) w ≡ At (length s.path)
entered_itself s w new = elim (set_read s.visits w w (At (length s.path)) Done (there_is s w New new (λ f. absurd cc))) [
  | inl q ↦ q.1
  | inr q ↦ absurd (q.0 refl)
]

-- what holds after the first number of a path
pub record IsEntered (R : List (List ℕ)) (old new : State) (v : ℕ) : Type 0 where
  pub holds : IsInvariant R new
  pub met : (x : ℕ) → IsMet old x → IsMet new x
  pub itself : IsMet new v

pub entered_first : (R : List (List ℕ)) (s : State) → IsInvariant R s → (v : ℕ) → visit_of s v ≡ New → s.path ≡ [] → IsEntered R s (entered s v) v
entered_first R s k v new none =
    let z : length s.path ≡ 0 = ap (λ (xs : List ℕ). length xs) none in
    let here = entered_itself s v new in
    record {
      holds = entered_invariant R s k v new (λ i hi. absurd (omega arith));
      met = λ x. entered_met s v x new;
      itself = λ e. absurd cc;
    }
