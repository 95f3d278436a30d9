-- Years and their eras as bytes.
use Rattle.std.proofs.Common.{◌≡◌, ℕ, zero, suc, ◌+◌, ◌<◌, ◌^◌, ◌%◌, ℤ, pos, negsuc, ◌<ℤ◌, Bool, true, false, List, ◌++◌, refl, ap, ◌∙◌, arith}
use Rattle.std.specs.Prelude.{nat_le, unsigned_abs, if◌then◌else◌}
use Rattle.std.specs.Fmt.{decimal}
use Rattle.std.specs.Str.{chars, IsUtf8}
use Rattle.std.proofs.lemmas.Fmt.{IsAscii-decimal}
use Rattle.std.proofs.lemmas.Int.{ints}
use Rattle.laws.specs.Text.{text}
use Rattle.laws.proofs.Text.{text-append, text_of_chars}
use Rattle.texts.proofs.GrowingWritten.{text-ascii}
use Rattle.date_parts.specs.Written.{padded}
use Rattle.rendering_numbers.specs.Years.{year_since, year_text}

-- a number and what is written for an era
pub text-in_era : (n : ℕ) (era : List ℕ) → n < 2 ^ 64 → IsUtf8 era → text (decimal n ++ chars era) ≡ decimal n ++ era
text-in_era n era small utf8 = text-append (decimal n) (chars era) ∙ (λ i. text-ascii (decimal n) (IsAscii-decimal n small) i ++ text_of_chars era utf8 i)

-- before 1000 the era is written
pub early : (n : ℕ) (short : Bool) (ad : List ℕ) → nat_le 1000 n ≡ false → year_since n short ad ≡ decimal n ++ ad
early n short ad e = ap (λ (b : Bool). if b then (if short then padded 2 (n % 100) else decimal n) else decimal n ++ ad) e

-- from 1000 on a short year has two digits, and one that is not short all of them
pub late : (n : ℕ) (short : Bool) (ad : List ℕ) → nat_le 1000 n ≡ true → year_since n short ad ≡ (if short then padded 2 (n % 100) else decimal n)
late n short ad e = ap (λ (b : Bool). if b then (if short then padded 2 (n % 100) else decimal n) else decimal n ++ ad) e

-- years before 1 are counted back from there
pub before_one : (y : ℤ) (short : Bool) (ad bc : List ℕ) → y <ℤ pos 1 → year_text y short ad bc ≡ decimal (unsigned_abs y + 1) ++ bc
before_one (pos zero) short ad bc less = refl
before_one (pos (suc n)) short ad bc less = absurd (omega (arith, ints))
before_one (negsuc n) short ad bc less = let e : n + 2 ≡ suc n + 1 = omega arith in ap (λ (k : ℕ). decimal k ++ bc) e
