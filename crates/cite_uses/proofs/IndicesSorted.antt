-- Indices in two files are in one order where the second ones rise once they are sorted.
use Rattle.std.proofs.Common.{◌≡◌, ◌↔◌, ◌+◌, ◌-◌, ◌<◌, ◌≤◌, ℕ, zero, suc, Bool, true, true≢false, ◌⊎◌, inl, inr, ⊎_elim, List, [], ◌∷◌, ◌++◌, Option, Some, None, refl, length, get_or, take, IsTrue, sym, subst, ap, ◌∙◌, arith, nat_cmp, is_lt, Ordering, Less, Equal, Greater}
use Rattle.std.specs.Prelude.{IsPermutation, IsSorted, false}
use Rattle.std.specs.Cmp.{ranks}
use Rattle.std.specs.List.{cons_option}
use Rattle.std.specs.List.Sorted.{IsNonDecreasingBy}
use Rattle.std.specs.Ordering.{MatchOrdering, ordering_then}
use Rattle.std.proofs.lemmas.List.{get_or-take, get_or_default, length-take-le, take_all, take_more}
use Rattle.std.proofs.lemmas.List.Elements.{Contains-get_or}
use Rattle.std.proofs.lemmas.List.Sorted.{Contains-permutation, IsNonDecreasingBy-from_all_adjacent, IsNonDecreasingBy-push, IsNonDecreasingBy-short, IsPermutation-sym}
use Rattle.biblatex.specs.Listed.{Listed}
use Rattle.cite_uses.specs.Alike.{AreInOneOrder, both_indices, indices_of}
use Rattle.cite_uses.specs.AlikePairs.{by_both}

abbrev Pair : Type 0
Pair = ℕ × ℕ

-- the indices of a name stand before those of the others
pub one_name : (file other : Listed) (name : List ℕ) (names : List (List ℕ)) → indices_of file other (name ∷ names) ≡ indices_of file other (name ∷ []) ++ indices_of file other names
one_name file other name names = by (both_indices (file.index name) (other.index name))
  where
    by : (o : Option Pair) → cons_option o (indices_of file other names) ≡ cons_option o [] ++ indices_of file other names
    by None = refl
    by (Some p) = refl

-- what two pairs say of which the second is not less
not_less : (p q : Pair) → is_lt (by_both p q) ≡ false → (q.0 ≤ p.0) × (p.0 ≡ q.0 → q.1 ≤ p.1)
not_less p q never = by (nat_cmp p.0 q.0) (ranks p.0 q.0) (nat_cmp p.1 q.1) (ranks p.1 q.1) never
  where
    by : (o : Ordering) → MatchOrdering o (p.0 < q.0) (p.0 ≡ q.0) (q.0 < p.0) → (d : Ordering) → MatchOrdering d (p.1 < q.1) (p.1 ≡ q.1) (q.1 < p.1) → is_lt (ordering_then o d) ≡ false
        → (q.0 ≤ p.0) × (p.0 ≡ q.0 → q.1 ≤ p.1)
    by Less r d s never = absurd (true≢false never)
    by Equal r Less s never = absurd (true≢false never)
    by Equal r Equal s never = (omega (arith, r), λ e. omega (arith, s))
    by Equal r Greater s never = (omega (arith, r), λ e. omega (arith, s))
    by Greater r d s never = (omega (arith, r), λ e. absurd (omega (arith, r, e)))

split : (m n : ℕ) → (m ≤ n) ⊎ (n < m)
split zero n = inl (omega arith)
split (suc m) zero = inr (omega arith)
split (suc m) (suc n) = ⊎_elim (λ h. inl (omega (arith, h))) (λ h. inr (omega (arith, h))) (split m n)

module _ (ps qs : List Pair) (moved : IsPermutation ps qs) (sorted : IsSorted by_both qs) where
  firsts : IsNonDecreasingBy (λ (p : Pair). p.0) qs
  firsts = IsNonDecreasingBy-from_all_adjacent (λ (p : Pair). p.0) qs (λ k d low. (not_less (get_or qs (k + 1) d) (get_or qs k d) (sorted k d (omega arith) low)).0)

  in_order : IsNonDecreasingBy (λ (p : Pair). p.1) qs → AreInOneOrder ps
  in_order rise p q has has_too less =
      let a = Contains-permutation ps qs p moved has in
      let b = Contains-permutation ps qs q moved has_too in
      let p_is = a.2 in
      let q_is : get_or qs b.0 p ≡ q = get_or_default qs b.0 p q b.1 ∙ b.2 in
      ⊎_elim
      (λ low. let up = rise a.0 b.0 p low b.1 in omega (arith, up, ap (λ (r : Pair). r.1) p_is, ap (λ (r : Pair). r.1) q_is))
      (λ high. let up = firsts b.0 a.0 p (omega (arith, high)) a.1 in absurd (omega (arith, up, less, ap (λ (r : Pair). r.0) p_is, ap (λ (r : Pair). r.0) q_is)))
      (split a.0 b.0)

  rising : AreInOneOrder ps → IsNonDecreasingBy (λ (p : Pair). p.1) qs
  rising order = IsNonDecreasingBy-from_all_adjacent (λ (p : Pair). p.1) qs next
    where
      next : (k : ℕ) (d : Pair) → k + 1 < length qs → (get_or qs k d).1 ≤ (get_or qs (k + 1) d).1
      next k d low =
          let x = get_or qs k d in
          let y = get_or qs (k + 1) d in
          let n = not_less y x (sorted k d (omega arith) low) in
          let back = IsPermutation-sym ps qs moved in
          ⊎_elim
          (λ same. let up = n.0 in n.1 (omega (arith, same, up)))
          (λ less. order x y (Contains-permutation qs ps x back (Contains-get_or qs k d (omega (arith, low)))) (Contains-permutation qs ps y back (Contains-get_or qs (k + 1) d low)) less)
          (split y.0 x.0)

  pub sorted_order : IsNonDecreasingBy (λ (p : Pair). p.1) qs ↔ AreInOneOrder ps
  sorted_order = (in_order, rising)

-- whether the second numbers rise, pair by pair
module _ (xs : List Pair) where
  abbrev second : Pair → ℕ
  second p = p.1

  -- they do up to an index, before which this is the last one
  abbrev pub RiseTo : ℕ → ℕ → Type 0
  RiseTo i last = IsNonDecreasingBy (λ (p : Pair). p.1) (take i xs) × ((i ≡ 0 → last ≡ 0) × ((d : Pair) → 0 < i → (get_or xs (i - 1) d).1 ≡ last))

  pub rise_none : RiseTo 0 0
  rise_none = (IsNonDecreasingBy-short second [] (omega arith), (λ e. refl, λ d low. absurd (omega (arith, low))))

  pub rise_more : (i last : ℕ) (d : Pair) → i < length xs → last ≤ (get_or xs i d).1 → RiseTo i last → RiseTo (i + 1) (get_or xs i d).1
  rise_more i last e low up h =
      let on : i + 1 - 1 ≡ i = omega arith in (
        subst (IsNonDecreasingBy second) (sym (take_more xs i e low)) (IsNonDecreasingBy-push second (take i xs) (get_or xs i e) h.0 last_one),
        (λ none. absurd (omega (arith, none)), λ d pos. ap (λ (k : ℕ). (get_or xs k d).1) on ∙ ap second (get_or_default xs i d e low)),
      )
    where
      long : length (take i xs) ≡ i
      long = length-take-le i xs (omega (arith, low))

      last_one : (d : Pair) → 0 < length (take i xs) → (get_or (take i xs) (length (take i xs) - 1) d).1 ≤ (get_or xs i e).1
      last_one d pos =
          let at : length (take i xs) - 1 ≡ i - 1 = omega (arith, long) in
          omega
          (arith, up, ap second (get_or-take i xs (length (take i xs) - 1) d (omega (arith, long, pos))), ap (λ (k : ℕ). (get_or xs k d).1) at, h.1.1 d (omega (arith, long, pos)))

  pub rise_falls : (i last : ℕ) (d : Pair) → i < length xs → (get_or xs i d).1 < last → RiseTo i last → IsTrue false ↔ IsNonDecreasingBy (λ (q : Pair). q.1) xs
  rise_falls zero last d low less h = let none = h.1.0 refl in absurd (omega (arith, less, none))
  rise_falls (suc i) last d low less h = (
    λ no. absurd (true≢false (sym no)),
    λ up. let rise = up (suc i - 1) (suc i) d (omega arith) low in absurd (omega (arith, rise, less, h.1.1 d (omega arith))),
  )

  pub rise_all : (i last : ℕ) → length xs ≤ i → RiseTo i last → IsTrue true ↔ IsNonDecreasingBy (λ (q : Pair). q.1) xs
  rise_all i last past h = (λ so. subst (IsNonDecreasingBy second) (take_all i xs past) h.0, λ up. refl)

-- what was found, sorted, and lent
pub order_decided : (found lent sorted : List Pair) (b : Bool) → IsPermutation found sorted → IsSorted by_both sorted → lent ≡ sorted → (IsTrue b ↔ IsNonDecreasingBy (λ (p : Pair). p.1) lent) → IsTrue b ↔ AreInOneOrder found
order_decided found lent sorted b moved ascends same rise =
    let order = sorted_order found sorted moved ascends in (
      λ yes. order.0 (subst (IsNonDecreasingBy (λ (p : Pair). p.1)) same (rise.0 yes)),
      λ h. rise.1 (subst (IsNonDecreasingBy (λ (p : Pair). p.1)) (sym same) (order.1 h)),
    )
