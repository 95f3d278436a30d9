-- How a text begins decides what is read there.
use Rattle.std.proofs.Common.{◌≡◌, ℕ, ◌<◌, ◌^◌, Bool, true, false, List, [], ◌∷◌, ◌++◌, length, Ok, pos, refl, sym, arith, subst}
use Rattle.std.specs.Char.{is_ascii_digit}
use Rattle.std.specs.Fmt.{decimal}
use Rattle.std.specs.Str.{all_ascii_digits}
use Rattle.std.specs.Str.Parse.{digits_value}
use Rattle.std.proofs.lemmas.Bool.{and_parts}
use Rattle.std.proofs.lemmas.Bool.Decides.{nat_tests}
use Rattle.std.proofs.lemmas.Fmt.{digits_decimal, digits_value-decimal, decimal_nonempty}
use Rattle.laws.specs.Runs.{AllPassTest, Bars}
use Rattle.laws.proofs.Runs.{cuts}
use Rattle.texts.specs.Character.{passes}
use Rattle.texts.specs.Reading.{is_number, number_at}
use Rattle.texts.specs.declared.character.Class.TheVariants.{Letter, Digit, Space, Dash}
use Rattle.texts.proofs.ReadingDigits.{own, is_number_true}

-- a digit is of no other class
digit_only : (c : ℕ) → passes Digit c ≡ true → (passes Letter c ≡ false) × (passes Space c ≡ false) × (passes Dash c ≡ false)
unfolding passes
digit_only c d = (grind (arith, nat_tests), grind (arith, nat_tests), grind (arith, nat_tests))

digits_pass : (ds : List ℕ) → all_ascii_digits ds ≡ true → AllPassTest (passes Digit) ds
unfolding passes
digits_pass [] all = tt
digits_pass (d ∷ ds) all =
    let b = and_parts (is_ascii_digit d) (all_ascii_digits ds) all in
    (b.0, digits_pass ds b.1)

-- the decimal digits of a number are digits
pub decimal_digits : (n : ℕ) → n < 2 ^ 31 → AllPassTest (passes Digit) (decimal n)
decimal_digits n small = digits_pass (decimal n) (digits_decimal own n (omega arith))

-- a text that begins with a character that is a digit or no digit
pub record Starts (test : ℕ → Bool) (cs : List ℕ) : Type 0 where
  pub first : ℕ
  pub others : List ℕ
  pub is : cs ≡ first ∷ others
  pub passes : test first ≡ true

pub starts : (test : ℕ → Bool) (ds rest : List ℕ) → AllPassTest test ds → 0 < length ds → Starts test (ds ++ rest)
starts test [] rest all long = absurd (omega arith)
starts test (d ∷ ds) rest all long = record { first = d; others = ds ++ rest; is = refl; passes = all.0 }

-- a number begins with a digit
pub decimal_starts : (n : ℕ) (rest : List ℕ) → n < 2 ^ 31 → Starts (passes Digit) (decimal n ++ rest)
decimal_starts n rest small = starts (passes Digit) (decimal n) rest (decimal_digits n small) (decimal_nonempty n (omega arith))

bars_from : (test : ℕ → Bool) (cs : List ℕ) (c : ℕ) (others : List ℕ) → cs ≡ c ∷ others → test c ≡ false → Bars test cs
bars_from test cs c others is t = subst (λ (x : List ℕ). Bars test x) (sym is) t

-- no run of another class begins there
pub digit_bars : (cs : List ℕ) → Starts (passes Digit) cs → Bars (passes Letter) cs × Bars (passes Space) cs × Bars (passes Dash) cs
digit_bars cs s =
    let o = digit_only s.first s.passes in
    (bars_from _ cs s.first s.others s.is o.0, bars_from _ cs s.first s.others s.is o.1, bars_from _ cs s.first s.others s.is o.2)

-- the number that was written is the one that is read
pub number_again : (n : ℕ) (rest : List ℕ) → n < 2 ^ 31 → Bars (passes Digit) rest → number_at (decimal n ++ rest) ≡ Ok (pos n, rest)
number_again n rest small bars =
    let c = cuts (passes Digit) (decimal n) rest (decimal_digits n small) bars in
    let value : digits_value 10 (decimal n) ≡ n = digits_value-decimal own n (omega arith) in
    let few : digits_value 10 (decimal n) < 2 ^ 31 = omega arith in
    let t : is_number (decimal n) ≡ true = is_number_true (decimal n) (decimal_nonempty n (omega arith)) few in
    rw (c.prefix, c.after, t, value) refl
