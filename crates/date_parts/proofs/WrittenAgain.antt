-- What was written with zeros before it is read back.
use Rattle.std.proofs.Common.{◌≡◌, ℕ, zero, suc, ◌+◌, ◌-◌, ◌^◌, ◌<◌, ◌≤◌, Bool, true, false, ◌&&◌, List, ◌++◌, length, replicate, Some, Ok, ℤ, pos, negsuc, refl, sym, ap, ◌∙◌, subst, arith, leb, eqb, length-append, lit<, lit≤}
use Rattle.std.specs.Prelude.{unsigned_abs}
use Rattle.std.specs.Fmt.{decimal, sign_text}
use Rattle.std.specs.Int.{is_negative}
use Rattle.std.specs.Str.Parse.{digits_value}
use Rattle.std.proofs.lemmas.Bool.{le-leb, and_from}
use Rattle.std.proofs.lemmas.Bool.Decides.{nat_tests}
use Rattle.std.proofs.lemmas.Fmt.{digits_value-decimal, length-decimal-le}
use Rattle.std.proofs.lemmas.List.{length-replicate}
use Rattle.laws.specs.Characters.{hyphen, digit_zero}
use Rattle.laws.specs.Runs.{AllPassTest, Bars}
use Rattle.laws.proofs.Runs.{cuts}
use Rattle.texts.specs.Character.{passes}
use Rattle.texts.specs.Reading.{digits_at, taken}
use Rattle.date_parts.specs.Parts.{part_at, signed}
use Rattle.date_parts.specs.Written.{padded, year_text, counted_text}
use Rattle.texts.specs.declared.character.Class.TheVariants.{Digit}
use Rattle.texts.proofs.ReadingDigits.{own, digits_at-ok}
use Rattle.texts.proofs.ReadingStarts.{Starts, starts, decimal_digits}

-- zeros before it change no number
pub zeros_value : (k : ℕ) (ds : List ℕ) → digits_value 10 (replicate k digit_zero ++ ds) ≡ digits_value 10 ds
zeros_value zero ds = refl
zeros_value (suc k) ds = zeros_value k ds

zeros_pass : (k : ℕ) (ds : List ℕ) → AllPassTest (passes Digit) ds → AllPassTest (passes Digit) (replicate k digit_zero ++ ds)
unfolding passes
zeros_pass zero ds all = all
zeros_pass (suc k) ds all = (refl, zeros_pass k ds all)

-- a padded number has as many digits as are wanted
pub padded_length : (width n : ℕ) → 0 < width → n < 10 ^ width → n < 2 ^ 31 → length (padded width n) ≡ width
padded_length width n long small fits =
    let few : length (decimal n) ≤ width = length-decimal-le width n long small (omega arith) in
    omega (arith, length-append (replicate (width - length (decimal n)) digit_zero) (decimal n), length-replicate {A = ℕ} (width - length (decimal n)) digit_zero)

pub padded_digits : (width n : ℕ) → n < 2 ^ 31 → AllPassTest (passes Digit) (padded width n)
padded_digits width n fits = zeros_pass (width - length (decimal n)) (decimal n) (decimal_digits n fits)

-- a padded number that was written is read back
pub digits_again : (least most n : ℕ) (rest : List ℕ) → least ≤ most → 0 < most → n < 10 ^ most → n < 2 ^ 31 → Bars (passes Digit) rest → digits_at least most (padded most n ++ rest) ≡ Ok (n, rest)
digits_again least most n rest low long small fits bars =
    let c = cuts (passes Digit) (padded most n) rest (padded_digits most n fits) bars in
    let many : length (padded most n) ≡ most = padded_length most n long small fits in
    let some : least ≤ length (padded most n) = omega arith in
    let few : length (padded most n) ≤ most = omega arith in
    let within : leb least (length (padded most n)) && leb (length (padded most n)) most ≡ true = and_from _ _ (le-leb _ _ some) (le-leb _ _ few) in
    let value : digits_value 10 (padded most n) ≡ n = zeros_value (most - length (decimal n)) (decimal n) ∙ digits_value-decimal own n (omega arith) in
    digits_at-ok (padded most n) (padded most n ++ rest) least most (sym c.prefix) within ∙ (λ i. Ok ((ap (digits_value 10) c.prefix ∙ value) i, c.after i))

-- a part that was written is read back
pub part_again : (n : ℕ) (rest : List ℕ) → n < 99 → Bars (passes Digit) rest → part_at (counted_text n ++ rest) ≡ Ok (Some (n + 1), rest)
unfolding part_at
part_again n rest small bars =
    let d = digits_again 1 2 (n + 1) rest (lit≤ tt) (lit< tt) (omega arith) (omega arith) bars in
    rw d refl

not_hyphen : (c : ℕ) → passes Digit c ≡ true → eqb c hyphen ≡ false
unfolding passes
not_hyphen c d = grind (arith, nat_tests)

-- no sign stands before a digit
no_sign : (cs : List ℕ) → Starts (passes Digit) cs → taken hyphen cs ≡ (false, cs)
no_sign cs s = subst (λ (t : List ℕ). taken hyphen t ≡ (false, t)) (sym s.is) (let other = not_hyphen s.first s.passes in rw other refl)

pub not_negative : (n : ℕ) → is_negative (pos n) ≡ false
not_negative n = grind (arith, nat_tests)

-- the sign of a year that was written, and what follows it
pub year_sign : (y : ℤ) (rest : List ℕ) → unsigned_abs y ≤ 9999 → taken hyphen (year_text y ++ rest) ≡ (is_negative y, padded 4 (unsigned_abs y) ++ rest)
year_sign (pos n) rest small =
    let text : List ℕ = padded 4 n ++ rest in
    let long : 0 < length (padded 4 n) = omega (arith, padded_length 4 n (lit< tt) (omega arith) (omega arith)) in
    let sign : taken hyphen text ≡ (false, text) = no_sign text (starts (passes Digit) (padded 4 n) rest (padded_digits 4 n (omega arith)) long) in
    let plain : year_text (pos n) ++ rest ≡ text = (λ i. (sign_text (not_negative n i) ++ padded 4 n) ++ rest) in
    ap (taken hyphen) plain ∙ sign ∙ ap (λ (b : Bool). (b, text)) (sym (not_negative n))
year_sign (negsuc n) rest small = refl

-- a year is its number, negative after a hyphen
pub signed_again : (y : ℤ) → signed (is_negative y) (unsigned_abs y) ≡ y
signed_again (pos n) = ap (λ (b : Bool). signed b n) (not_negative n)
signed_again (negsuc n) = refl
