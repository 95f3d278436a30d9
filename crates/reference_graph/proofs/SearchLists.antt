-- Lists that rise, their last element, and what is read after a write or a push.
use Rattle.std.proofs.Common.{◌≡◌, ◌≢◌, ℕ, zero, suc, ◌+◌, ◌-◌, ◌<◌, ◌≤◌, ◌⊎◌, inl, inr, List, [], ◌∷◌, ◌++◌, length, get_or, set, take, drop, Contains, refl, sym, ap, subst, ◌∙◌, arith, length-take-le, length-set, get_or-take, get_or-set_same, get_or-set_other, get_or-drop, length-drop}
use Rattle.std.proofs.lemmas.List.{get_or_default, get_or_append_left, get_or_push, get_or_past, length_push}
use Rattle.std.proofs.lemmas.List.Elements.{Contains-get_or}
use Rattle.std.proofs.lemmas.Bool.{cases_eq, cases_lt}
use Rattle.reference_graph.specs.Search.{without_last, last, written}
use Rattle.reference_graph.specs.Invariant.{Rising}

-- the index of a number that a list contains
pub index_in : (xs : List ℕ) (x : ℕ) → Contains xs x → (k : ℕ) × (k < length xs) × (get_or xs k 0 ≡ x)
index_in xs x c = (c.0, c.1, get_or_default xs c.0 0 x c.1 ∙ c.2)

pub contained_at : (xs : List ℕ) (k x : ℕ) → k < length xs → get_or xs k 0 ≡ x → Contains xs x
contained_at xs k x h e = subst (λ (y : ℕ). Contains xs y) e (Contains-get_or xs k 0 h)

pub take_has : (n : ℕ) (xs : List ℕ) (x : ℕ) → n ≤ length xs → Contains (take n xs) x → (k : ℕ) × (k < n) × (get_or xs k 0 ≡ x)
take_has n xs x h c =
    let p = index_in (take n xs) x c in
    let l = length-take-le n xs h in
    let lt : p.0 < n = omega arith in
    (p.0, lt, sym (get_or-take n xs p.0 0 lt) ∙ p.2)

pub in_take : (n : ℕ) (xs : List ℕ) (k x : ℕ) → n ≤ length xs → k < n → get_or xs k 0 ≡ x → Contains (take n xs) x
in_take n xs k x h lt e =
    let l = length-take-le n xs h in
    contained_at (take n xs) k x (omega arith) (get_or-take n xs k 0 lt ∙ e)

pub drop_has : (n : ℕ) (xs : List ℕ) (x : ℕ) → Contains (drop n xs) x → (k : ℕ) × (n ≤ k) × (k < length xs) × (get_or xs k 0 ≡ x)
drop_has n xs x c =
    let p = index_in (drop n xs) x c in
    let l = length-drop n xs in
    (n + p.0, omega arith, omega arith, sym (get_or-drop n xs p.0 0) ∙ p.2)

pub in_drop : (n : ℕ) (xs : List ℕ) (k x : ℕ) → n ≤ k → k < length xs → get_or xs k 0 ≡ x → Contains (drop n xs) x
in_drop n xs k x h lt e =
    let l = length-drop n xs in
    let s : n + (k - n) ≡ k = omega arith in
    contained_at (drop n xs) (k - n) x (omega arith) (get_or-drop n xs (k - n) 0 ∙ (ap (λ (j : ℕ). get_or xs j 0) s ∙ e))

-- what `xs[i]` gives
pub read_index : (xs : List ℕ) (i x : ℕ) → i < length xs → x ≡ get_or xs i x → get_or xs i 0 ≡ x
read_index xs i x h e = get_or_default xs i 0 x h ∙ sym e

pub has_last : (xs : List ℕ) (q : ℕ) → 0 < length xs → last xs ≡ q → Contains xs q
has_last xs q some e = contained_at xs (length xs - 1) q (omega arith) e

-- what stands in all but the last stands in the list
pub without_last_has : (xs : List ℕ) (x : ℕ) → Contains (without_last xs) x → Contains xs x
without_last_has xs x c =
    let p = take_has (length xs - 1) xs x (omega arith) c in
    contained_at xs p.0 x (omega arith) p.2

pub before_or_last : (xs : List ℕ) (x : ℕ) → Contains xs x → Contains (without_last xs) x ⊎ (x ≡ last xs)
before_or_last xs x c =
    let p = index_in xs x c in
    elim (cases_lt p.0 (length xs - 1)) [
      | inl h ↦ inl (in_take (length xs - 1) xs p.0 x (omega arith) h p.2)
      | inr h ↦ let e : p.0 ≡ length xs - 1 = omega arith in inr (sym p.2 ∙ ap (λ (j : ℕ). get_or xs j 0) e)
    ]

pub without_last_rises : (xs : List ℕ) → Rising xs → Rising (without_last xs)
without_last_rises xs rises i j h lt =
    let l = length-take-le (length xs - 1) xs (omega arith) in
    let hj : j < length xs - 1 = omega arith in
    let hi : i < length xs - 1 = omega arith in
    let r = rises i j h (omega arith) in
    rw (get_or-take (length xs - 1) xs i 0 hi, get_or-take (length xs - 1) xs j 0 hj) r

pub without_last_below : (xs : List ℕ) (x : ℕ) → Rising xs → Contains (without_last xs) x → x < last xs
without_last_below xs x rises c =
    let p = take_has (length xs - 1) xs x (omega arith) c in
    let r = rises p.0 (length xs - 1) p.1 (omega arith) in
    subst (λ (y : ℕ). y < last xs) p.2 r

pub last_top : (xs : List ℕ) (x : ℕ) → Rising xs → Contains xs x → x ≤ last xs
last_top xs x rises c =
    elim (before_or_last xs x c) [
      | inl h ↦ let r = without_last_below xs x rises h in omega arith
      | inr e ↦ omega arith
    ]

pub push_rises : (xs : List ℕ) (y : ℕ) → Rising xs → ((x : ℕ) → Contains xs x → x < y) → Rising (xs ++ y ∷ [])
push_rises xs y rises top i j h lt =
    let l = length_push xs y in
    let hi : i < length xs = omega arith in
    let ei = get_or_append_left xs (y ∷ []) 0 i hi in
    elim (cases_lt j (length xs)) [
      | inl hj ↦ rw (ei, get_or_append_left xs (y ∷ []) 0 j hj) (rises i j h hj)
      | inr hj ↦ let ej = get_or_push xs y 0 j (omega arith) in rw (ei, ej) (top (get_or xs i 0) (Contains-get_or xs i 0 hi))
    ]

-- an element of a list after a push is one of before or the new one
pub push_read : (xs : List ℕ) (y i : ℕ) → i < length (xs ++ y ∷ []) → ((i < length xs) × (get_or (xs ++ y ∷ []) i 0 ≡ get_or xs i 0)) ⊎ ((i ≡ length xs) × (get_or (xs ++ y ∷ []) i 0 ≡ y))
push_read xs y i h =
    let l = length_push xs y in
    elim (cases_lt i (length xs)) [
      | inl lt ↦ inl (lt, get_or_append_left xs (y ∷ []) 0 i lt)
      | inr ge ↦ let e : i ≡ length xs = omega arith in inr (e, get_or_push xs y 0 i (sym e))
    ]

-- an element after a write is the new one at its index, else the old one
pub set_read : {X : Type 0} (xs : List X) (k i : ℕ) (x d : X) → k < length xs → ((i ≡ k) × (get_or (set xs k x) i d ≡ x)) ⊎ ((i ≢ k) × (get_or (set xs k x) i d ≡ get_or xs i d))
set_read xs k i x d h =
    elim (cases_eq i k) [
      | inl e ↦ inl (e, ap (λ (j : ℕ). get_or (set xs k x) j d) e ∙ get_or-set_same xs k x d h)
      | inr ne ↦ inr (ne, get_or-set_other xs k i x d ne)
    ]

pub within_list : {X : Type 0} (xs : List X) (k : ℕ) (x d : X) → get_or xs k d ≡ x → (x ≡ d → ⊥) → k < length xs
within_list xs k x d e ne =
    elim (cases_lt k (length xs)) [
      | inl h ↦ h
      | inr h ↦ absurd (ne (sym e ∙ get_or_past xs k d h))
    ]

pub written_long : {X : Type 0} (ks : List ℕ) (x : X) (xs : List X) → length (written ks x xs) ≡ length xs
written_long [] x xs = refl
written_long (k ∷ ks) x xs = written_long ks x (set xs k x) ∙ length-set xs k x

-- an element at none of the indices that were written stays
pub written_not : {X : Type 0} (ks : List ℕ) (x : X) (xs : List X) (i : ℕ) (d : X) → (Contains ks i → ⊥) → get_or (written ks x xs) i d ≡ get_or xs i d
written_not [] x xs i d absent = refl
written_not (k ∷ ks) x xs i d absent =
    let ne : i ≢ k = λ e. absent (contained_at (k ∷ ks) 0 i (omega arith) (sym e)) in
    written_not ks x (set xs k x) i d (λ c. let p = index_in ks i c in absent (contained_at (k ∷ ks) (suc p.0) i (omega arith) p.2)) ∙ get_or-set_other xs k i x d ne

-- a value that stays, once it is written
pub written_stays : {X : Type 0} (ks : List ℕ) (x : X) (xs : List X) (i : ℕ) (d : X) → get_or xs i d ≡ x → i < length xs → get_or (written ks x xs) i d ≡ x
written_stays [] x xs i d e h = e
written_stays (k ∷ ks) x xs i d e h =
    let l = length-set xs k x in
    let same : get_or (set xs k x) i d ≡ x = elim (cases_eq i k) [
      | inl q ↦ ap (λ (j : ℕ). get_or (set xs k x) j d) q ∙ get_or-set_same xs k x d (omega arith)
      | inr ne ↦ get_or-set_other xs k i x d ne ∙ e
    ] in
    written_stays ks x (set xs k x) i d same (omega arith)

later : (k : ℕ) (ks : List ℕ) (i : ℕ) → i ≢ k → Contains (k ∷ ks) i → Contains ks i
later k ks i ne (zero, h, e) = absurd (ne (sym e))
later k ks i ne (suc j, h, e) = (j, omega arith, e)

pub written_at : {X : Type 0} (ks : List ℕ) (x : X) (xs : List X) (i : ℕ) (d : X) → Contains ks i → i < length xs → get_or (written ks x xs) i d ≡ x
written_at [] x xs i d c h = absurd (omega (arith, c.1))
written_at (k ∷ ks) x xs i d c h =
    let l = length-set xs k x in
    elim (cases_eq i k) [
      | inl e ↦ written_stays ks x (set xs k x) i d (ap (λ (j : ℕ). get_or (set xs k x) j d) e ∙ get_or-set_same xs k x d (omega arith)) (omega arith)
      | inr ne ↦ written_at ks x (set xs k x) i d (later k ks i ne c) (omega arith)
    ]
