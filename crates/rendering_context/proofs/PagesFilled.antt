-- Which numbers and pages have a text.
use Rattle.std.proofs.Common.{◌≡◌, ℕ, zero, suc, ◌/◌, Bool, true, false, not, ◌==◌, cond, List, [], ◌∷◌, ◌++◌, length, Option, ℤ, pos, negsuc, refl, sym, ap, ◌∙◌, arith}
use Rattle.std.proofs.lemmas.Bool.Decides.{nat_tests}
use Rattle.std.specs.Fmt.{digits, digits_onto, decimal, signed_decimal}
use Rattle.std.specs.List.{flat_map}
use Rattle.laws.specs.Text.{is_filled}
use Rattle.literature_numbers.specs.NumericText.{separator_text, linked_text}
use Rattle.literature_numbers.specs.declared.separator.NumericDelimiter.{NumericDelimiter}

-- what stands after has characters
pub filled_after : (a b : List ℕ) → is_filled b ≡ true → is_filled (a ++ b) ≡ true
filled_after [] b e = e
filled_after (c ∷ a) b e = refl

filled_either : (b : Bool) (cs ds : List ℕ) → is_filled cs ≡ true → is_filled ds ≡ true → is_filled (cond b cs ds) ≡ true
filled_either true cs ds e f = e
filled_either false cs ds e f = f

filled_onto : (k base : ℕ) (upper : Bool) (n c : ℕ) (cs : List ℕ) → is_filled (digits_onto k base upper n (c ∷ cs)) ≡ true
filled_onto zero base upper n c cs = refl
filled_onto (suc k) base upper n c cs = filled_either (n / base == 0) _ _ refl (filled_onto k base upper (n / base) _ (c ∷ cs))

filled_digits : (k base : ℕ) (upper : Bool) (n : ℕ) → is_filled (digits_onto (suc k) base upper n []) ≡ true
filled_digits k base upper n = filled_either (n / base == 0) _ _ refl (filled_onto k base upper (n / base) _ [])

filled_decimal : (n : ℕ) → is_filled (decimal n) ≡ true
unfolding digits
filled_decimal n = filled_digits 63 10 false n

-- a number has a text
pub filled_signed : (z : ℤ) → is_filled (signed_decimal z) ≡ true
filled_signed (pos n) = filled_decimal n
filled_signed (negsuc n) = refl

filled_before : (a b : List ℕ) → is_filled a ≡ true → is_filled (a ++ b) ≡ true
filled_before [] b e = absurd cc
filled_before (c ∷ a) b e = refl

-- a set has a text where there are numbers
pub filled_set : (ns : List (ℤ × Option NumericDelimiter)) → is_filled (flat_map linked_text ns) ≡ is_filled ns
filled_set [] = refl
filled_set (n ∷ ns) = filled_before (linked_text n) (flat_map linked_text ns) (filled_before (signed_decimal n.0) (separator_text n.1) (filled_signed n.0))

-- the same by how many there are
pub some_filled : (count : ℕ) (ns : List (ℤ × Option NumericDelimiter)) → count ≡ length ns → not (count == 0) ≡ is_filled (flat_map linked_text ns)
some_filled count [] e = ap (λ (n : ℕ). not (n == 0)) e
some_filled count (n ∷ ns) e = ap (λ (m : ℕ). not (m == 0)) e ∙ not_none (length ns) ∙ sym (filled_set (n ∷ ns))
  where
    not_none : (m : ℕ) → not (suc m == 0) ≡ true
    not_none m = grind (arith, nat_tests)
