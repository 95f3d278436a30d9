-- Integers as they are written, as a grammar by cases. Bytes are numbers; each character of an integer is one of ASCII, and so one byte.
use Rattle.std.specs.Prelude.{◌≡◌, ℕ, ◌≤◌, ◌<◌, ◌^◌, ◌⊎◌, List, ◌∷◌, length, ℤ, pos, neg_ℤ}
use Rattle.std.specs.Char.{is_ascii_digit}
use Rattle.std.specs.Str.Parse.{digits_value}
use Rattle.laws.specs.Characters.{hyphen}
use Rattle.laws.specs.Runs.{AllPassTest}

-- ASCII digits, one at least, and the number that they spell.
abbrev pub AreDigits : List ℕ → ℕ → Type 0
AreDigits bs n = AllPassTest is_ascii_digit bs × (1 ≤ length bs) × (n ≡ digits_value 10 bs)

-- An integer from -2^63 to 2^63 - 1: digits alone, or a hyphen and digits where it is negative.
abbrev pub IsInteger : List ℕ → ℤ → Type 0
IsInteger bs z = ((n : ℕ) × AreDigits bs n × (n < 2 ^ 63) × (z ≡ pos n))
    ⊎ ((n : ℕ) × (ds : List ℕ) × (bs ≡ hyphen ∷ ds) × AreDigits ds n × (n ≤ 2 ^ 63) × (z ≡ neg_ℤ (pos n)))
