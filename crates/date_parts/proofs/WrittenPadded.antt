-- Numbers with zeros before them.
use Rattle.std.proofs.Common.{◌≡◌, ℕ, ◌<◌, ◌^◌, ◌++◌, length, refl, zero, suc, ◌-◌, lit<, replicate, ◌∙◌}
use Rattle.std.specs.Fmt.{decimal}
use Rattle.date_parts.specs.Written.{padded}
use Rattle.std.proofs.lemmas.Fmt.{IsAscii-decimal}
use Rattle.std.proofs.lemmas.Str.{encode_ascii}
use Rattle.laws.specs.Characters.{digit_zero}
use Rattle.laws.specs.Text.{text}
use Rattle.laws.proofs.Text.{text-append}
use Rattle.texts.proofs.GrowingWritten.{text-ascii}

text-zeros : (k : ℕ) → text (replicate k digit_zero) ≡ replicate k digit_zero
text-zeros zero = refl
text-zeros (suc k) = (λ i. encode_ascii digit_zero (lit< tt) i ++ text-zeros k i)

-- a number with zeros before it is written in ASCII
pub text-padded : (width n : ℕ) → n < 2 ^ 64 → text (padded width n) ≡ padded width n
text-padded width n small =
    text-append (replicate (width - length (decimal n)) digit_zero) (decimal n) ∙ (λ i. text-zeros (width - length (decimal n)) i ++ text-ascii (decimal n) (IsAscii-decimal n small) i)
