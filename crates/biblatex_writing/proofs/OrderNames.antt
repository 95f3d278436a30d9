-- The order of names.
use Rattle.std.proofs.Common.{◌≡◌, ℕ, Bool, true, false, List, Ordering, Less, Equal, Greater, bytes_eq, nat_cmp, is_eq, refl, sym, ap, subst, ◌∙◌, true≢false}
use Rattle.std.specs.Cmp.Lexicographic.{slice_cmp}
use Rattle.std.specs.Ordering.{is_lt, ordering_reverse}
use Rattle.std.proofs.lemmas.Cmp.{nat_list_cmp_total, tied_itself}
use Rattle.std.proofs.lemmas.Map.Text.{is_eq-slice_cmp}
use Rattle.std.proofs.lemmas.Slice.Eq.{bytes_eq-Decides}
use Rattle.biblatex_writing.specs.Written.{is_less}

lt_is : (o : Ordering) → is_lt o ≡ true → o ≡ Less
lt_is Less e = refl
lt_is Equal e = absurd (true≢false (sym e))
lt_is Greater e = absurd (true≢false (sym e))

pub less_trans : (a b c : List ℕ) → is_less a b ≡ true → is_less b c ≡ true → is_less a c ≡ true
less_trans a b c p q = ap is_lt (nat_list_cmp_total.trans a b c (lt_is (slice_cmp nat_cmp a b) p) (lt_is (slice_cmp nat_cmp b c) q))

pub less_back : (a b : List ℕ) → is_less a b ≡ true → is_less b a ≡ false
less_back a b p = ap is_lt (nat_list_cmp_total.antisymm b a ∙ ap ordering_reverse (lt_is (slice_cmp nat_cmp a b) p))

pub less_itself : (a : List ℕ) → is_less a a ≡ false
less_itself a = ap is_lt (tied_itself nat_list_cmp_total a)

-- names of which neither is less are one
pub less_neither : (a b : List ℕ) → is_less a b ≡ false → is_less b a ≡ false → a ≡ b
less_neither a b p q = by_order (slice_cmp nat_cmp a b) refl p
  where
    by_order : (o : Ordering) → slice_cmp nat_cmp a b ≡ o → is_lt o ≡ false → a ≡ b
    by_order Less e l = absurd (true≢false l)
    by_order Equal e l = (bytes_eq-Decides a b).0 (sym (is_eq-slice_cmp a b) ∙ ap is_eq e)
    by_order Greater e l = absurd (true≢false (sym (ap is_lt (nat_list_cmp_total.antisymm b a ∙ ap ordering_reverse e)) ∙ q))

-- what is not less than a name is less than what the name is less than
pub less_after : (a n b : List ℕ) → is_less a n ≡ false → is_less a b ≡ true → is_less n b ≡ true
less_after a n b p q = by_test (is_less n a) refl
  where
    by_test : (t : Bool) → is_less n a ≡ t → is_less n b ≡ true
    by_test true e = less_trans n a b e q
    by_test false e = subst (λ (x : List ℕ). is_less x b ≡ true) (less_neither a n p e) q

-- of two names of which the first is not less, and that are not one, the second is less
pub less_other : (a b : List ℕ) → is_less a b ≡ false → bytes_eq a b ≡ false → is_less b a ≡ true
less_other a b p q = by_test (is_less b a) refl
  where
    by_test : (t : Bool) → is_less b a ≡ t → t ≡ true
    by_test true e = refl
    by_test false e = absurd (true≢false (sym ((bytes_eq-Decides a b).1 (less_neither a b p e)) ∙ q))

-- two tests of one equation
pub other_way : (a b : List ℕ) → bytes_eq a b ≡ false → bytes_eq b a ≡ false
other_way a b e = by_test (bytes_eq b a) refl
  where
    by_test : (t : Bool) → bytes_eq b a ≡ t → t ≡ false
    by_test true h = absurd (true≢false (sym (subst (λ (x : List ℕ). bytes_eq a x ≡ true) (sym ((bytes_eq-Decides b a).0 h)) ((bytes_eq-Decides a a).1 refl)) ∙ e))
    by_test false h = refl
