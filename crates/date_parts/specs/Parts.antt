-- Years, months and days as they are read from the left. Characters are numbers.
use Rattle.std.specs.Prelude.{ℕ, Bool, true, false, List, Option, Some, None, Result, Ok, ℤ, pos, neg_ℤ}
use Rattle.laws.specs.Characters.{hyphen}
use Rattle.laws.specs.Results.{◌>>=◌}
use Rattle.texts.specs.Reading.{digits_at, taken}
use Rattle.texts.specs.declared.reader.Unreadable.{Unreadable}

-- after a hyphen one or two digits are wanted
abbrev pub part_after : Bool × List ℕ → Result (Option ℕ × List ℕ) Unreadable
part_after (false, rest) = Ok (None, rest)
part_after (true, rest) = digits_at 1 2 rest >>= λ d. Ok (Some d.0, d.1)

-- a month or a day: a hyphen and one or two digits, or nothing
unfoldable pub part_at : List ℕ → Result (Option ℕ × List ℕ) Unreadable
part_at cs = part_after (taken hyphen cs)

-- the year of a number of which a hyphen says that it is negative
abbrev pub signed : Bool → ℕ → ℤ
signed false n = pos n
signed true n = neg_ℤ (pos n)
