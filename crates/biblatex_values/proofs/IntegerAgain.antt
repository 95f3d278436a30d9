-- Integers that were written are read back.
use Rattle.std.proofs.Common.{◌≡◌, ℕ, suc, ◌<◌, ◌^◌, true, false, List, [], ◌∷◌, Ok, ℤ, pos, negsuc, FitsSigned, refl, ap, ◌∙◌, arith, eqb}
use Rattle.std.specs.Char.{is_ascii_digit}
use Rattle.std.specs.Fmt.{decimal, signed_decimal}
use Rattle.std.specs.Int.{w64}
use Rattle.std.specs.Str.{all_ascii_digits}
use Rattle.std.specs.Str.Parse.{digits_value}
use Rattle.std.proofs.lemmas.Bool.{and_parts}
use Rattle.std.proofs.lemmas.Bool.Decides.{nat_tests}
use Rattle.std.proofs.lemmas.Fmt.{IsAscii-signed, digits_decimal, digits_value-decimal, decimal_nonempty}
use Rattle.std.proofs.lemmas.Int.{ints}
use Rattle.laws.specs.Characters.{hyphen}
use Rattle.laws.specs.Text.{text}
use Rattle.texts.proofs.ReadingDigits.{own}
use Rattle.texts.proofs.GrowingWritten.{text-ascii}
use Rattle.biblatex_content.specs.declared.chunk.Kind.TheVariants.{Normal}
use Rattle.biblatex_values.specs.Integer.{natural_of, integer_of, reads_integer, writes_integer}
use Rattle.biblatex_values.proofs.IntegerPrinted.{natural-ok, negative-ok}
use Rattle.biblatex_values.proofs.TextsPlain.{plain-letters}
use lib.Signed.{mag}

digit_no_hyphen : (d : ℕ) → is_ascii_digit d ≡ true → eqb d hyphen ≡ false
digit_no_hyphen d is = grind (arith, nat_tests)

-- digits are a natural number
digits_natural : (ds : List ℕ) → all_ascii_digits ds ≡ true → integer_of ds ≡ natural_of ds
digits_natural [] all = refl
digits_natural (d ∷ ds) all =
    let b = and_parts (is_ascii_digit d) (all_ascii_digits ds) all in
    let h = digit_no_hyphen d b.0 in
    rw h refl

text_integer : (z : ℤ) → FitsSigned w64 z → integer_of (signed_decimal z) ≡ Ok z
text_integer (pos n) fits =
    let small : n < 2 ^ 63 = omega (arith, ints) in
    let all : all_ascii_digits (decimal n) ≡ true = digits_decimal own n (omega arith) in
    let value : digits_value 10 (decimal n) ≡ n = digits_value-decimal own n (omega arith) in
    digits_natural (decimal n) all ∙ natural-ok (decimal n) (all, decimal_nonempty n (omega arith), omega arith) ∙ rw value refl
text_integer (negsuc n) fits =
    let small : n < 2 ^ 63 = omega (arith, ints) in
    let all : all_ascii_digits (decimal (suc n)) ≡ true = digits_decimal own (suc n) (omega arith) in
    let value : digits_value 10 (decimal (suc n)) ≡ suc n = digits_value-decimal own (suc n) (omega arith) in
    negative-ok (decimal (suc n)) (all, decimal_nonempty (suc n) (omega arith), omega arith) ∙ rw value refl

pub integer_again : (z : ℤ) → FitsSigned w64 z → reads_integer (writes_integer z) ≡ Ok z
integer_again z fits =
    let small : mag z < 2 ^ 63 = omega (arith, ints) in
    ap (λ (cs : List ℕ). integer_of (text cs)) (plain-letters Normal (signed_decimal z)) ∙ (ap integer_of (text-ascii (signed_decimal z) (IsAscii-signed z small)) ∙ text_integer z fits)
