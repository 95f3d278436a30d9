-- Places in lists, and in lists that are made of them member by member.
use Rattle.std.proofs.Common.{◌≡◌, ℕ, zero, suc, ◌+◌, Bool, true, false, true≢false, cond, not, ◌||◌, nat_eq, eq-eqb, eqb-true, List, [], ◌∷◌, find, map, slice_get, option_map, All, Option, Some, None, refl, sym, ap, subst, ◌∙◌, arith}
use Rattle.std.specs.Cmp.{nat_eq_equiv}
use Rattle.std.specs.List.{IsDistinct, list_any, position_or_len}
use Rattle.std.proofs.lemmas.List.Elements.{All-from_recursion}
use Rattle.std.proofs.lemmas.List.Folds.{find_at}
use Rattle.std.proofs.lemmas.Map.Keys.{IsDistinct-head, IsDistinct-tail}
use Rattle.std.proofs.lemmas.Option.{get_or_from_slice_get, none-some, same_Some, slice_get-map, slice_get_within}

-- what holds of each member holds of the one at an index
pub at_index : {A : Type 0} (P : A → Type 0) (xs : List A) (n : ℕ) (x : A) → All P xs → slice_get xs n ≡ Some x → P x
at_index P xs n x all is = subst P (get_or_from_slice_get xs n x x is) (all n x (slice_get_within xs n x is))

-- a list that has what is made of each member of another one
module _ {A B : Type 0} (f : A → Option B) (xs : List A) (ys : List B) (listed : map f xs ≡ map (λ y. Some y) ys) (n : ℕ) where
  at_both : option_map f (slice_get xs n) ≡ option_map (λ y. Some y) (slice_get ys n)
  at_both = sym (slice_get-map f xs n) ∙ ap (λ zs. slice_get zs n) listed ∙ slice_get-map (λ y. Some y) ys n

  -- at the place of a member stands what is made of it
  pub made_there : (x : A) → slice_get xs n ≡ Some x → slice_get ys n ≡ f x
  made_there x is = by (slice_get ys n) (sym at_both ∙ ap (option_map f) is)
    where
      by : (o : Option B) → option_map (λ y. Some y) o ≡ Some (f x) → o ≡ f x
      by None e = absurd (none-some (f x) e)
      by (Some y) e = same_Some (Some y) (f x) e

  -- and what stands there is made of a member there
  pub member_there : (y : B) → slice_get ys n ≡ Some y → (x : A) × (slice_get xs n ≡ Some x) × (f x ≡ Some y)
  member_there y is = by (slice_get xs n) refl (at_both ∙ ap (option_map (λ z. Some z)) is)
    where
      by : (o : Option A) → slice_get xs n ≡ o → option_map f o ≡ Some (Some y) → (x : A) × (slice_get xs n ≡ Some x) × (f x ≡ Some y)
      by None e h = absurd (none-some (Some y) h)
      by (Some x) e h = (x, e, same_Some (f x) (Some y) h)

find_number : (e : ℕ) (xs : List ℕ) → list_any (nat_eq e) xs ≡ true → find (nat_eq e) xs ≡ Some e
find_number e [] h = absurd (true≢false (sym h))
find_number e (x ∷ xs) h = by (find_number e xs) (nat_eq e x) refl h
  where
    by : (list_any (nat_eq e) xs ≡ true → find (nat_eq e) xs ≡ Some e) → (b : Bool) → nat_eq e x ≡ b → (b || list_any (nat_eq e) xs) ≡ true → cond b (Some x) (find (nat_eq e) xs) ≡ Some e
    by more true is h = ap (λ (y : ℕ). Some y) (sym (eqb-true e x is))
    by more false is h = more h

-- a number that is in a list stands at its first place
pub number_there : (e : ℕ) (xs : List ℕ) → list_any (nat_eq e) xs ≡ true → slice_get xs (position_or_len (nat_eq e) xs) ≡ Some e
number_there e xs h = sym (find_at (nat_eq e) xs) ∙ find_number e xs h

-- and at no other, where no number is there twice
pub only_there : (e : ℕ) (xs : List ℕ) (n : ℕ) → IsDistinct nat_eq xs → slice_get xs n ≡ Some e → n ≡ position_or_len (nat_eq e) xs
only_there e [] n d is = absurd (none-some e is)
only_there e (x ∷ xs) zero d is = sym (ap (λ (b : Bool). cond (not b) (1 + position_or_len (nat_eq e) xs) 0) (eq-eqb e x (sym (same_Some x e is))))
only_there e (x ∷ xs) (suc n) d is =
    let others = only_there e xs n (IsDistinct-tail nat_eq x xs d) is in
    let apart : nat_eq x e ≡ false = at_index (λ (y : ℕ). nat_eq x y ≡ false) xs n e (All-from_recursion (λ (y : ℕ). nat_eq x y ≡ false) xs (IsDistinct-head nat_eq x xs d)) is in
    let next : suc n ≡ 1 + position_or_len (nat_eq e) xs = omega (arith, others) in
    next ∙ sym (ap (λ (b : Bool). cond (not b) (1 + position_or_len (nat_eq e) xs) 0) (nat_eq_equiv.symm e x ∙ apart))
