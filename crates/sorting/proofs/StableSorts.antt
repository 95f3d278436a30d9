-- Lists that are sorted stably: two stable sorts of one list are one.
use Rattle.std.proofs.Common.{◌≡◌, ℕ, zero, suc, ◌+◌, ◌<◌, Bool, true, false, cond, not, ◌&&◌, List, [], ◌∷◌, length, filter, get_or, true≢false, refl, sym, ap, ◌∙◌, add-one, arith}
use Rattle.std.specs.Cmp.{IsStrictWeakOrder, IsTotalOrder}
use Rattle.std.specs.List.Sorted.{IsSortedBy, IsStableBy, IsPermutation, ties}
use Rattle.std.specs.declared.cmp.Ordering.{Ordering}
use Rattle.std.proofs.lemmas.List.Sorted.{ranks_by, IsPermutation-refl, IsPermutation-cons, IsPermutation-trans, IsPermutation-middle, IsPermutation-sym}
use Rattle.sorting.specs.Sorted.{put_in, sorted_by, is_less, sorted}

module _ {X : Type 0} (lt : X → X → Bool) (o : IsStrictWeakOrder lt) where
  -- nothing in a list is less than the element
  abbrev pub IsLeast : X → List X → Type 0
  IsLeast y [] = Unit {0}
  IsLeast y (z ∷ zs) = (lt z y ≡ false) × IsLeast y zs

  -- nothing in a list is less than what stands before it
  abbrev pub Rises : List X → Type 0
  Rises [] = Unit {0}
  Rises (y ∷ ys) = IsLeast y ys × Rises ys

  never_itself : (x : X) → lt x x ≡ false
  never_itself x = by (lt x x) refl
    where
      by : (b : Bool) → lt x x ≡ b → lt x x ≡ false
      by true e = o.one_way x x e
      by false e = e

  ties_both : (x y : X) → lt x y ≡ false → lt y x ≡ false → ties lt x y ≡ true
  ties_both x y p q = rw (p, q) refl

  ties_itself : (x : X) → ties lt x x ≡ true
  ties_itself x = ties_both x x (never_itself x) (never_itself x)

  least_below : (x y : X) (ys : List X) → lt y x ≡ false → IsLeast y ys → IsLeast x ys
  least_below x y [] low least = tt
  least_below x y (z ∷ zs) low least = (o.chain z y x least.0 low, least_below x y zs low least.1)

  -- what is less than the least ties with nothing
  none_ties : (z y : X) → lt z y ≡ true → (ws : List X) → IsLeast y ws → filter (ties lt z) ws ≡ []
  none_ties z y less [] least = refl
  none_ties z y less (w ∷ ws) least = by (lt z w) refl (none_ties z y less ws least.1)
    where
      by : (b : Bool) → lt z w ≡ b → filter (ties lt z) ws ≡ [] → filter (ties lt z) (w ∷ ws) ≡ []
      by true e more = rw e more
      by false e more = absurd (true≢false (sym less ∙ o.chain z w y e least.0))

  first_ties : (z : X) (zs : List X) → filter (ties lt z) (z ∷ zs) ≡ z ∷ filter (ties lt z) zs
  first_ties z zs = rw (ties_itself z) refl

  -- the first of a list is not less than the first of another one with the same ties
  not_less : (y z : X) (ys zs : List X) → IsLeast y ys → filter (ties lt z) (y ∷ ys) ≡ filter (ties lt z) (z ∷ zs) → lt z y ≡ false
  not_less y z ys zs least same = by (lt z y) refl
    where
      by : (b : Bool) → lt z y ≡ b → lt z y ≡ false
      by true e =
          let none : [] ≡ z ∷ filter (ties lt z) zs = sym (none_ties z y e (y ∷ ys) (never_itself y, least)) ∙ same ∙ first_ties z zs in
          absurd cc
      by false e = e

  -- without their equal first elements two lists have the same ties
  rests_tie : (x y z : X) (p q : List X) → y ≡ z → cond (ties lt x y) (y ∷ p) p ≡ cond (ties lt x z) (z ∷ q) q → p ≡ q
  rests_tie x y z p q e same = by (ties lt x y) (ties lt x z) (ap (ties lt x) e) same
    where
      by : (b c : Bool) → b ≡ c → cond b (y ∷ p) p ≡ cond c (z ∷ q) q → p ≡ q
      by true true is same = cc
      by true false is same = absurd (true≢false is)
      by false true is same = absurd (true≢false (sym is))
      by false false is same = same

  -- two lists that rise and have the same ties are one
  pub one_list : (ys zs : List X) → Rises ys → Rises zs → ((x : X) → filter (ties lt x) ys ≡ filter (ties lt x) zs) → ys ≡ zs
  one_list [] [] a b same = refl
  one_list [] (z ∷ zs) a b same =
      let none : [] ≡ z ∷ filter (ties lt z) zs = same z ∙ first_ties z zs in
      absurd cc
  one_list (y ∷ ys) [] a b same =
      let none : y ∷ filter (ties lt y) ys ≡ [] = sym (first_ties y ys) ∙ same y in
      absurd cc
  one_list (y ∷ ys) (z ∷ zs) a b same =
      let tied : ties lt y z ≡ true = ties_both y z (not_less z y zs ys b.0 (sym (same y))) (not_less y z ys zs a.0 (same z)) in
      let fronts : y ∷ filter (ties lt y) ys ≡ z ∷ filter (ties lt y) zs = sym (first_ties y ys) ∙ same y ∙ ap (λ (c : Bool). cond c (z ∷ filter (ties lt y) zs) (filter (ties lt y) zs)) tied in
      let first : y ≡ z = cc in
      let rest : ys ≡ zs = one_list ys zs a.1 b.1 (λ x. rests_tie x y z (filter (ties lt x) ys) (filter (ties lt x) zs) first (same x)) in
      cc

  put_least : (y x : X) (ys : List X) → lt x y ≡ false → IsLeast y ys → IsLeast y (put_in lt x ys)
  put_least y x [] low least = (low, tt)
  put_least y x (z ∷ zs) low least = by (lt z x) (put_least y x zs low least.1)
    where
      by : (b : Bool) → IsLeast y (put_in lt x zs) → IsLeast y (cond b (z ∷ put_in lt x zs) (x ∷ z ∷ zs))
      by true more = (least.0, more)
      by false more = (low, least)

  put_rises : (x : X) (ys : List X) → Rises ys → Rises (put_in lt x ys)
  put_rises x [] up = (tt, tt)
  put_rises x (y ∷ ys) up = by (lt y x) refl (put_rises x ys up.1)
    where
      by : (b : Bool) → lt y x ≡ b → Rises (put_in lt x ys) → Rises (cond b (y ∷ put_in lt x ys) (x ∷ y ∷ ys))
      by true e more = (put_least y x ys (o.one_way y x e) up.0, more)
      by false e more = ((e, least_below x y ys e up.0), up)

  pub sorted_rises : (xs : List X) → Rises (sorted_by lt xs)
  sorted_rises [] = tt
  sorted_rises (x ∷ xs) = put_rises x (sorted_by lt xs) (sorted_rises xs)

  -- what is less than another one does not tie with all that this ties with
  apart : (x y z : X) → lt z y ≡ true → lt z x ≡ false → lt x y ≡ false → true ≡ false
  apart x y z less p q = sym less ∙ o.chain z x y p q

  put_ties : (x y : X) (ys : List X) → filter (ties lt x) (put_in lt y ys) ≡ filter (ties lt x) (y ∷ ys)
  put_ties x y [] = refl
  put_ties x y (z ∷ zs) = by (lt z y) refl (put_ties x y zs)
    where
      crossed : (xy yx xz zx : Bool) (fs gs : List X) → (zx ≡ false → xy ≡ false → true ≡ false)
          → gs ≡ cond (not xy && not yx) (y ∷ fs) fs
          → cond (not xz && not zx) (z ∷ gs) gs ≡ cond (not xy && not yx) (y ∷ cond (not xz && not zx) (z ∷ fs) fs) (cond (not xz && not zx) (z ∷ fs) fs)
      crossed false false false false fs gs never is = absurd (true≢false (never refl refl))
      crossed false false false true fs gs never is = is
      crossed false false true zx fs gs never is = is
      crossed false true false false fs gs never is = ap (λ (l : List X). z ∷ l) is
      crossed false true false true fs gs never is = is
      crossed false true true zx fs gs never is = is
      crossed true yx false false fs gs never is = ap (λ (l : List X). z ∷ l) is
      crossed true yx false true fs gs never is = is
      crossed true yx true zx fs gs never is = is

      by : (b : Bool) → lt z y ≡ b → filter (ties lt x) (put_in lt y zs) ≡ filter (ties lt x) (y ∷ zs)
          → filter (ties lt x) (cond b (z ∷ put_in lt y zs) (y ∷ z ∷ zs)) ≡ filter (ties lt x) (y ∷ z ∷ zs)
      by true e more = crossed (lt x y) (lt y x) (lt x z) (lt z x) (filter (ties lt x) zs) (filter (ties lt x) (put_in lt y zs)) (λ p q. apart x y z e p q) more
      by false e more = refl

  pub sorted_ties : (x : X) (xs : List X) → filter (ties lt x) (sorted_by lt xs) ≡ filter (ties lt x) xs
  sorted_ties x [] = refl
  sorted_ties x (y ∷ ys) = put_ties x y (sorted_by lt ys) ∙ ap (λ (l : List X). cond (ties lt x y) (y ∷ l) l) (sorted_ties x ys)

  -- a sorted list rises
  rises_from_sorted : (ys : List X) → IsSortedBy lt ys → Rises ys
  rises_from_sorted [] up = tt
  rises_from_sorted (y ∷ []) up = (tt, tt)
  rises_from_sorted (y ∷ z ∷ zs) up =
      let tail : IsSortedBy lt (z ∷ zs) = λ k d low high. by k d (up (suc k) d (omega arith) (omega arith)) in
      let rest : Rises (z ∷ zs) = rises_from_sorted (z ∷ zs) tail in
      let step : lt z y ≡ false = up 0 y (omega arith) (omega arith) in
      ((step, least_below y z zs step rest.0), rest)
    where
      by : (k : ℕ) (d : X) → lt (get_or (y ∷ z ∷ zs) (suc k + 1) d) (get_or (y ∷ z ∷ zs) (suc k) d) ≡ false → lt (get_or (z ∷ zs) (k + 1) d) (get_or (z ∷ zs) k d) ≡ false
      by k d here = rw (add-one k) (rw (add-one (suc k)) at here)

  -- what rises is sorted
  sorted_from_rises : (ys : List X) → Rises ys → IsSortedBy lt ys
  sorted_from_rises [] up = λ k d low high. absurd (omega arith)
  sorted_from_rises (y ∷ []) up = λ k d low high. absurd (omega arith)
  sorted_from_rises (y ∷ z ∷ zs) up = λ k d low high. by d (sorted_from_rises (z ∷ zs) up.1) k high
    where
      by : (d : X) → IsSortedBy lt (z ∷ zs) → (k : ℕ) → k + 1 < length (y ∷ z ∷ zs) → lt (get_or (y ∷ z ∷ zs) (k + 1) d) (get_or (y ∷ z ∷ zs) k d) ≡ false
      by d rest zero high = up.0.0
      by d rest (suc k) high =
          let here : lt (get_or (z ∷ zs) (k + 1) d) (get_or (z ∷ zs) k d) ≡ false = rest k d (omega arith) (omega arith) in
          rw (add-one (suc k)) (rw (add-one k) at here)

  pub sorts_are_one : (xs ys : List X) → IsSortedBy lt ys → IsStableBy lt xs ys → ys ≡ sorted_by lt xs
  sorts_are_one xs ys up keeps = one_list ys (sorted_by lt xs) (rises_from_sorted ys up) (sorted_rises xs) (λ x. keeps x ∙ sym (sorted_ties x xs))

  put_permutes : (x : X) (ys : List X) → IsPermutation (x ∷ ys) (put_in lt x ys)
  put_permutes x [] = IsPermutation-refl (x ∷ [])
  put_permutes x (y ∷ ys) = by (lt y x) (put_permutes x ys)
    where
      by : (b : Bool) → IsPermutation (x ∷ ys) (put_in lt x ys) → IsPermutation (x ∷ y ∷ ys) (cond b (y ∷ put_in lt x ys) (x ∷ y ∷ ys))
      by true more = IsPermutation-trans (x ∷ y ∷ ys) (y ∷ x ∷ ys) (y ∷ put_in lt x ys) (IsPermutation-sym (y ∷ x ∷ ys) (x ∷ y ∷ ys) (IsPermutation-middle (y ∷ []) x ys)) (IsPermutation-cons y (x ∷ ys) (put_in lt x ys) more)
      by false more = IsPermutation-refl (x ∷ y ∷ ys)

  permutes : (xs : List X) → IsPermutation xs (sorted_by lt xs)
  permutes [] = IsPermutation-refl []
  permutes (x ∷ xs) = IsPermutation-trans (x ∷ xs) (x ∷ sorted_by lt xs) (put_in lt x (sorted_by lt xs)) (IsPermutation-cons x xs (sorted_by lt xs) (permutes xs)) (put_permutes x (sorted_by lt xs))

  pub is_sorted : (xs : List X) → IsSortedBy lt (sorted_by lt xs)
  is_sorted xs = sorted_from_rises (sorted_by lt xs) (sorted_rises xs)

-- the laws by a total order
order_by : {X : Type 0} (cmp : X → X → Ordering) → IsTotalOrder cmp → IsStrictWeakOrder (is_less cmp)
order_by cmp total = ranks_by total (λ x. x)

pub sorted_permutes : {X : Type 0} (cmp : X → X → Ordering) → IsTotalOrder cmp → (xs : List X) → IsPermutation xs (sorted cmp xs)
sorted_permutes cmp total xs = permutes (is_less cmp) (order_by cmp total) xs

pub sorted_is_in_order : {X : Type 0} (cmp : X → X → Ordering) → IsTotalOrder cmp → (xs : List X) → IsSortedBy (is_less cmp) (sorted cmp xs)
sorted_is_in_order cmp total xs = is_sorted (is_less cmp) (order_by cmp total) xs

pub sorted_keeps_ties : {X : Type 0} (cmp : X → X → Ordering) → IsTotalOrder cmp → (xs : List X) → IsStableBy (is_less cmp) xs (sorted cmp xs)
sorted_keeps_ties cmp total xs = λ x. sorted_ties (is_less cmp) (order_by cmp total) x xs

pub stable_sorts_agree : {X : Type 0} (cmp : X → X → Ordering) → IsTotalOrder cmp → (xs ys : List X) → IsSortedBy (is_less cmp) ys → IsStableBy (is_less cmp) xs ys → ys ≡ sorted cmp xs
stable_sorts_agree cmp total xs ys up keeps = sorts_are_one (is_less cmp) (order_by cmp total) xs ys up keeps
