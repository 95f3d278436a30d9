-- Digits as the characters of a text.
use Rattle.std.proofs.Common.{◌≡◌, ℕ, ◌<◌, ◌^◌, ◌-◌, lit<, List, ◌++◌, length, replicate, zero, suc, ap, ◌∙◌}
use Rattle.std.specs.Fmt.{decimal}
use Rattle.std.specs.Str.{chars, IsUtf8, IsAscii}
use Rattle.std.proofs.lemmas.Fmt.{IsAscii-decimal}
use Rattle.std.proofs.lemmas.Str.{chars-append, chars-IsAscii, IsAscii-append}
use Rattle.std.proofs.lemmas.Str.Ascii.{IsAscii-nil, IsAscii-cons}
use Rattle.laws.specs.Characters.{digit_zero}
use Rattle.date_parts.specs.Written.{padded}

-- ASCII after a text is its next characters
pub chars-ascii_after : (old more new : List ℕ) → IsUtf8 old → IsAscii more → new ≡ old ++ more → chars new ≡ chars old ++ more
chars-ascii_after old more new utf8 ascii e = ap chars e ∙ chars-append old more utf8 ∙ ap (λ (x : List ℕ). chars old ++ x) (chars-IsAscii more ascii)

IsAscii-zeros : (k : ℕ) → IsAscii (replicate k digit_zero)
IsAscii-zeros zero = IsAscii-nil
IsAscii-zeros (suc k) = IsAscii-cons digit_zero (replicate k digit_zero) (lit< tt) (IsAscii-zeros k)

-- a number with zeros before it is ASCII
pub IsAscii-padded : (width n : ℕ) → n < 2 ^ 64 → IsAscii (padded width n)
IsAscii-padded width n small = IsAscii-append (replicate (width - length (decimal n)) digit_zero) (decimal n) (IsAscii-zeros (width - length (decimal n))) (IsAscii-decimal n small)
