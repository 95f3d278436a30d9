-- Numbers with zeros before them, as dates have them. Characters are numbers.
use Rattle.std.specs.Prelude.{ℕ, ◌+◌, ◌-◌, List, ◌∷◌, ◌++◌, length, replicate, ℤ, unsigned_abs}
use Rattle.std.specs.Fmt.{decimal, sign_text}
use Rattle.std.specs.Int.{is_negative}
use Rattle.laws.specs.Characters.{hyphen, digit_zero}

-- a number with zeros before it, which make it so many digits where it has fewer
abbrev pub padded : ℕ → ℕ → List ℕ
padded width n = replicate (width - length (decimal n)) digit_zero ++ decimal n

-- four digits or more, after a hyphen where the year is negative
abbrev pub year_text : ℤ → List ℕ
year_text y = sign_text (is_negative y) ++ padded 4 (unsigned_abs y)

-- a hyphen and two digits or more, counted from one
abbrev pub counted_text : ℕ → List ℕ
counted_text n = hyphen ∷ padded 2 (n + 1)
