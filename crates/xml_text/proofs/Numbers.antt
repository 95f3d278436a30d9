-- Numbers of digits that are cut at the number past those of all characters.
use Rattle.std.proofs.Common.{◌≡◌, ℕ, ◌+◌, ◌*◌, ◌<◌, ◌≤◌, ◌⊎◌, false, List, [], ◌∷◌, refl, sym, ap, ◌∙◌, inl, inr, arith}
use Rattle.std.specs.Prelude.{min}
use Rattle.std.specs.Char.{digit_value, OutOfScalarRange}
use Rattle.std.specs.Str.Parse.{digits_value_after}
use Rattle.std.proofs.Math.Nat.{mul-le-mul_left}
use Rattle.std.proofs.lemmas.Bool.{cases_lt}
use Rattle.std.proofs.lemmas.Bool.Decides.{nat_tests}
use Rattle.xml_text.specs.Character.{passes}
use Rattle.xml_text.specs.Values.{legal_character}
use Rattle.xml_text.specs.declared.character.Class.TheVariants.{Legal}

abbrev past_all : ℕ
past_all = 0x110000

-- one more digit
cut_digit : (r n d : ℕ) → 1 ≤ r → (n < past_all) ⊎ (past_all ≤ n) → min (min n past_all * r + d) past_all ≡ min (n * r + d) past_all
cut_digit r n d some (inl small) =
    let e : min n past_all ≡ n = omega arith in
    rw e refl
cut_digit r n d some (inr large) =
    let e : min n past_all ≡ past_all = omega arith in
    let a : past_all * 1 ≤ past_all * r = mul-le-mul_left past_all some in
    let b : n * 1 ≤ n * r = mul-le-mul_left n some in
    let left : min (past_all * r + d) past_all ≡ past_all = omega (arith, a) in
    let right : min (n * r + d) past_all ≡ past_all = omega (arith, b) in
    rw (e, left, right) refl

-- the others after it
pub cut_digits : (r : ℕ) (cs : List ℕ) (n : ℕ) → 1 ≤ r → min (digits_value_after r (min n past_all) cs) past_all ≡ min (digits_value_after r n cs) past_all
cut_digits r [] n some = omega arith
cut_digits r (c ∷ cs) n some =
    sym (cut_digits r cs (min n past_all * r + digit_value c) some)
    ∙ (ap (λ (x : ℕ). min (digits_value_after r x cs) past_all) (cut_digit r n (digit_value c) some (cases_lt n past_all)) ∙ cut_digits r cs (n * r + digit_value c) some)

-- what is no scalar value is no character of XML
pub no_scalar : (n : ℕ) → OutOfScalarRange n → passes Legal n ≡ false
unfolding passes
no_scalar n out = grind (arith, nat_tests)

-- a number is cut where no character is
pub legal_cut : (n : ℕ) → legal_character (min n 0x110000) ≡ legal_character n
legal_cut n = by_size (cases_lt n 0x110000)
  where
    by_size : (n < 0x110000) ⊎ (0x110000 ≤ n) → legal_character (min n 0x110000) ≡ legal_character n
    by_size (inl small) =
        let e : min n 0x110000 ≡ n = omega arith in
        rw e refl
    by_size (inr large) =
        let e : min n 0x110000 ≡ 0x110000 = omega arith in
        let a = no_scalar 0x110000 (inr (omega arith)) in
        let b = no_scalar n (inr large) in
        rw (e, a, b) refl
