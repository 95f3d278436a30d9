-- What is made of parts, and what is left without times, exists.
use Rattle.std.proofs.Common.{◌≡◌, ℕ, zero, suc, ◌+◌, ◌≤◌, ◌<◌, Bool, true, false, cond, List, Option, Some, None, Result, Ok, Err, ℤ, refl, arith}
use Rattle.std.specs.Prelude.{IfOk, IfSome}
use Rattle.std.specs.Int.{is_in_range}
use Rattle.std.proofs.lemmas.Bool.Decides.{nat_tests}
use Rattle.laws.specs.Characters.{hyphen}
use Rattle.laws.proofs.Results.{bind_if_ok}
use Rattle.texts.specs.Reading.{digits_at, end_at, taken}
use Rattle.texts.specs.declared.reader.Unreadable.{Unreadable}
use Rattle.date_parts.specs.Calendar.{has_day}
use Rattle.date_parts.specs.Dates.{in_month, on_day}
use Rattle.date_parts.specs.declared.dates.CalendarDate.{CalendarDate}
use Rattle.biblatex_dates.specs.Date.{value_without_time}
use Rattle.biblatex_dates.specs.Datetime.{at_time, without_time}
use Rattle.biblatex_dates.specs.Parts.{year_part, number_part, first_of, month_named, is_month, month_numbered, month_part, day_numbered, day_read, month_read, parts_read, year_read, of_parts}
use Rattle.biblatex_dates.specs.Written.{Exists, HasMonth, SidesExist}
use Rattle.biblatex_dates.specs.declared.date.DateValue.{DateValue}
use Rattle.biblatex_dates.specs.declared.date.DateValue.TheVariants.{At, After, Before, Between}
use Rattle.biblatex_dates.specs.declared.datetime.Datetime.{Datetime}
use Rattle.biblatex_dates.specs.declared.datetime.Time.{Time}
use Rattle.biblatex_dates.proofs.ShapeExists.{IsYear, IsDate, any_ok, digits_small, signed_small, month_exists, day_exists}

year_part_small : (cs : List ℕ) → IfOk (year_part cs) IsYear
unfolding year_part
year_part_small cs =
    bind_if_ok (λ (p : ℕ × List ℕ). p.0 < 10000) IsYear (digits_at 1 4 (taken hyphen cs).1) _ (digits_small 1 4 (taken hyphen cs).1) (λ y small.
    bind_if_ok (λ (rest : List ℕ). Unit {0}) IsYear (end_at y.1) _ (any_ok (end_at y.1)) (λ rest u. signed_small (taken hyphen cs).0 y.0 small))

-- the number of a month
abbrev IsMonth : ℕ → Type 0
IsMonth m = is_in_range 1 12 m ≡ true

one_of_twelve : (m : ℕ) → 1 ≤ m → m ≤ 12 → IsMonth m
one_of_twelve m low high = grind (arith, nat_tests)

first_within : (test : ℕ → Bool) (n m : ℕ) → 1 ≤ m → m + n ≤ 13 → IfSome (first_of test n m) IsMonth
first_within test zero m low high = tt
first_within test (suc n) m low high = by_test (first_within test n (m + 1) (omega arith) (omega arith)) (test m)
  where
    by_test : IfSome (first_of test n (m + 1)) IsMonth → (b : Bool) → IfSome (cond b (Some m) (first_of test n (m + 1))) IsMonth
    by_test more true = one_of_twelve m low (omega arith)
    by_test more false = more

named_within : (cs : List ℕ) → IfSome (month_named cs) IsMonth
unfolding month_named
named_within cs = first_within (is_month cs) 12 1 (omega arith) (omega arith)

numbered_within : (r : Result ℕ Unreadable) (cs : List ℕ) → IfSome (month_numbered r cs) IsMonth
numbered_within (Ok n) cs = by_test (is_in_range 1 12 n) refl
  where
    by_test : (b : Bool) → is_in_range 1 12 n ≡ b → IfSome (cond b (Some n) None) IsMonth
    by_test true e = e
    by_test false e = tt
numbered_within (Err e) cs = named_within cs

-- there is the date
abbrev IsThere : CalendarDate → Type 0
IsThere d = Exists (at_time None d)

day_numbered_exists : (y : ℤ) (m : ℕ) (r : Result ℕ Unreadable) → IsYear y → IsMonth m → IsThere (day_numbered y m r)
day_numbered_exists y m (Ok d) small e = by_test (has_day y m d) refl
  where
    by_test : (b : Bool) → has_day y m d ≡ b → IsThere (cond b (on_day y m d) (in_month y m))
    by_test true has = day_exists y m d None small e has tt
    by_test false has = month_exists y m None small e
day_numbered_exists y m (Err f) small e = month_exists y m None small e

day_read_exists : (y : ℤ) (m : ℕ) (day : Option (List ℕ)) → IsYear y → IsMonth m → IsThere (day_read y m day)
day_read_exists y m None small e = month_exists y m None small e
day_read_exists y m (Some day) small e = day_numbered_exists y m (number_part day) small e

month_read_exists : (y : ℤ) (o : Option ℕ) (day : Option (List ℕ)) → IsYear y → IfSome o IsMonth → IsThere (month_read y o day)
month_read_exists y None day small is = (small, tt)
month_read_exists y (Some m) day small is = day_read_exists y m day small is

parts_read_exists : (y : ℤ) (month day : Option (List ℕ)) → IsYear y → IsThere (parts_read y month day)
parts_read_exists y None day small = (small, tt)
parts_read_exists y (Some month) day small = month_read_exists y (month_part month) day small (numbered_within (number_part month) month)

year_read_exists : (r : Result ℤ Unreadable) (month day : Option (List ℕ)) → IfOk r IsYear → IfSome (year_read r month day) IsDate
year_read_exists (Ok y) month day small = parts_read_exists y month day small
year_read_exists (Err e) month day small = tt

pub parts_exist : (year : List ℕ) (month day : Option (List ℕ)) → IfSome (of_parts year month day) IsDate
parts_exist year month day = year_read_exists (year_part year) month day (year_part_small year)

timeless_month : (y : ℤ) (month day : Option ℕ) (time : Option Time) → HasMonth y month day time → HasMonth y month day None
timeless_month y None None None has = tt
timeless_month y None None (Some t) has = absurd has
timeless_month y None (Some d) time has = absurd has
timeless_month y (Some m) None None has = has
timeless_month y (Some m) None (Some t) has = absurd has.1
timeless_month y (Some m) (Some d) time has = (has.0, (has.1.0, tt))

timeless : (d : Datetime) → Exists d → Exists (without_time d)
timeless d e = (e.0, timeless_month d.year d.month d.day d.time e.1)

pub timeless_value : (v : DateValue) → SidesExist v → SidesExist (value_without_time v)
timeless_value (At d) e = timeless d e
timeless_value (After d) e = timeless d e
timeless_value (Before d) e = timeless d e
timeless_value (Between c d) e = (timeless c e.0, timeless d e.1)
