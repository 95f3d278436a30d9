-- What a year, a month and a day mean. Months and days count from one as written, and from zero in the value.
use Rattle.std.specs.Prelude.{ℕ, ◌-◌, if◌then◌else◌, Option, Some, None, Result, Ok, Err, ℤ}
use Rattle.std.specs.Int.{is_in_range}
use Rattle.date_parts.specs.Calendar.{has_day}
use Rattle.date_parts.specs.declared.dates.CalendarDate.{CalendarDate}
use Rattle.date_parts.specs.declared.dates.OutOfRange.{OutOfRange}
use Rattle.date_parts.specs.declared.dates.OutOfRange.TheVariants.{Month, Day}

-- the year, without month and day
abbrev pub year_alone : ℤ → CalendarDate
year_alone y = record { year = y; month = None; day = None }

-- the month, without a day
abbrev pub in_month : ℤ → ℕ → CalendarDate
in_month y m = record { year = y; month = Some (m - 1); day = None }

-- the day
abbrev pub on_day : ℤ → ℕ → ℕ → CalendarDate
on_day y m d = record { year = y; month = Some (m - 1); day = Some (d - 1) }

-- a day, where there is one, must be one that the month has
abbrev pub of_month : ℤ → ℕ → Option ℕ → Result CalendarDate OutOfRange
of_month y m None = Ok (in_month y m)
of_month y m (Some d) = if has_day y m d then Ok (on_day y m d) else Err Day

-- The months 21 to 24 are seasons, which leave the year alone. Another month is one of twelve.
abbrev pub of_year : ℤ → Option ℕ → Option ℕ → Result CalendarDate OutOfRange
of_year y None day = Ok (year_alone y)
of_year y (Some m) day = if is_in_range 21 24 m then Ok (year_alone y) else (if is_in_range 1 12 m then of_month y m day else Err Month)
