-- Which days there are.
use Rattle.std.specs.Prelude.{ℕ, Bool, ℤ}
use Rattle.std.specs.Int.{is_in_range}
use Rattle.jiff.specs.Words.{days_in_month}

-- the month has the day in the Gregorian calendar of all years, where the year before 1 is 0; both count from one
abbrev pub has_day : ℤ → ℕ → ℕ → Bool
has_day y m d = is_in_range 1 (days_in_month y m) d
