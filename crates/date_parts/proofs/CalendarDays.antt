-- Which days there are.
use Rattle.std.proofs.Common.{◌≡◌, ℕ, ◌+◌, ◌<◌, ◌≤◌, Bool, true, false, cond, ◌||◌, ℤ, arith, eqb, lit≤}
use Rattle.std.specs.Int.{is_in_range}
use Rattle.std.proofs.lemmas.Bool.Decides.{nat_tests}
use Rattle.jiff.specs.Words.{days_in_month, is_leap_year}
use Rattle.date_parts.specs.Calendar.{has_day}

-- no month has more than 31 days
pub few_days : (y : ℤ) (m : ℕ) → days_in_month y m ≤ 31
few_days y m = by_tests (eqb m 2) (is_leap_year y) (eqb m 4 || eqb m 6 || eqb m 9 || eqb m 11)
  where
    by_tests : (a b c : Bool) → cond a (cond b 29 28) (cond c 30 31) ≤ 31
    by_tests true true c = lit≤ tt
    by_tests true false c = lit≤ tt
    by_tests false b true = lit≤ tt
    by_tests false b false = lit≤ tt

-- a month is no season
pub no_season : (m : ℕ) → m < 12 → is_in_range 21 24 (m + 1) ≡ false
no_season m small = grind (arith, nat_tests)

pub of_twelve : (m : ℕ) → m < 12 → is_in_range 1 12 (m + 1) ≡ true
of_twelve m small = grind (arith, nat_tests)

in_range : (d n : ℕ) → d < n → is_in_range 1 n (d + 1) ≡ true
in_range d n small = grind (arith, nat_tests)

-- a day below the number of days is one of the month, as it counts from one
pub day_within : (y : ℤ) (m d : ℕ) → d < days_in_month y (m + 1) → has_day y (m + 1) (d + 1) ≡ true
day_within y m d small = in_range d (days_in_month y (m + 1)) small
