-- A date from a year, a month and a day, each a text of its own. Characters are numbers.
use Rattle.std.specs.Prelude.{ℕ, zero, suc, ◌+◌, Bool, ◌==◌, ◌||◌, List, take, if◌then◌else◌, Option, Some, None, Result, Ok, Err, ℤ, false, codes}
use Rattle.std.specs.Int.{is_in_range}
use Rattle.std.specs.Str.{bytes_eq}
use Rattle.caseless.specs.Caseless.{default_case_fold}
use Rattle.laws.specs.Characters.{hyphen}
use Rattle.laws.specs.Results.{◌>>=◌}
use Rattle.texts.specs.Reading.{digits_at, end_at, taken}
use Rattle.texts.specs.declared.reader.Unreadable.{Unreadable}
use Rattle.date_parts.specs.Calendar.{has_day}
use Rattle.date_parts.specs.Dates.{year_alone, in_month, on_day}
use Rattle.date_parts.specs.declared.dates.CalendarDate.{CalendarDate}
use Rattle.biblatex_dates.specs.Datetime.{at_time}
use Rattle.date_parts.specs.Parts.{signed}
use Rattle.biblatex_dates.specs.declared.date.Date.{Date}
use Rattle.biblatex_dates.specs.declared.date.DateValue.TheVariants.{At}

-- one to four digits, negative after a hyphen
unfoldable pub year_part : List ℕ → Result ℤ Unreadable
year_part cs = do
  year ← digits_at 1 4 (taken hyphen cs).1
  rest ← end_at year.1
  Ok (signed (taken hyphen cs).0 year.0)

-- one or two digits
unfoldable pub number_part : List ℕ → Result ℕ Unreadable
number_part cs = do
  number ← digits_at 1 2 cs
  rest ← end_at number.1
  Ok number.0

-- whether two texts are one once case is folded
abbrev pub is_same : List ℕ → List ℕ → Bool
is_same a b = bytes_eq (default_case_fold a) (default_case_fold b)

-- whether the text is the name, or its first three letters
abbrev pub is_called : List ℕ → List ℕ → Bool
is_called cs name = is_same cs name || is_same cs (take 3 name)

-- the English name of a month, counted from one
abbrev pub month_name : ℕ → List ℕ
month_name m =
    if m == 1 then codes "January"
    else (if m == 2 then codes "February"
    else (if m == 3 then codes "March"
    else (if m == 4 then codes "April"
    else (if m == 5 then codes "May"
    else (if m == 6 then codes "June"
    else (if m == 7 then codes "July"
    else (if m == 8 then codes "August"
    else (if m == 9 then codes "September"
    else (if m == 10 then codes "October"
    else (if m == 11 then codes "November"
    else codes "December"))))))))))

-- whether the text is the name of the month or its first three letters
abbrev pub is_month : List ℕ → ℕ → Bool
is_month cs m = is_called cs (month_name m)

-- the first of so many numbers from m on that passes
abbrev pub first_of : (ℕ → Bool) → ℕ → ℕ → Option ℕ
first_of test zero m = None
first_of test (suc n) m = if test m then Some m else first_of test n (m + 1)

-- a month by its English name, counted from one
unfoldable pub month_named : List ℕ → Option ℕ
month_named cs = first_of (is_month cs) 12 1

-- a month by its number, which is one of twelve, and what is no number by its name
abbrev pub month_numbered : Result ℕ Unreadable → List ℕ → Option ℕ
month_numbered (Ok n) cs = if is_in_range 1 12 n then Some n else None
month_numbered (Err e) cs = month_named cs

abbrev pub month_part : List ℕ → Option ℕ
month_part cs = month_numbered (number_part cs) cs

-- the day, where it can be read and the month has it
abbrev pub day_numbered : ℤ → ℕ → Result ℕ Unreadable → CalendarDate
day_numbered y m (Ok d) = if has_day y m d then on_day y m d else in_month y m
day_numbered y m (Err e) = in_month y m

-- the month, and the day of it that can be read
abbrev pub day_read : ℤ → ℕ → Option (List ℕ) → CalendarDate
day_read y m None = in_month y m
day_read y m (Some day) = day_numbered y m (number_part day)

-- the month, where it can be read
abbrev pub month_read : ℤ → Option ℕ → Option (List ℕ) → CalendarDate
month_read y None day = year_alone y
month_read y (Some m) day = day_read y m day

-- the year, and the month and the day of it that can be read
abbrev pub parts_read : ℤ → Option (List ℕ) → Option (List ℕ) → CalendarDate
parts_read y None day = year_alone y
parts_read y (Some month) day = month_read y (month_part month) day

-- the date, where the year can be read, as far as its parts can be; it is sure
abbrev pub year_read : Result ℤ Unreadable → Option (List ℕ) → Option (List ℕ) → Option Date
year_read (Ok y) month day = Some (record { value = At (at_time None (parts_read y month day)); uncertain = false; approximate = false })
year_read (Err e) month day = None

abbrev pub of_parts : List ℕ → Option (List ℕ) → Option (List ℕ) → Option Date
of_parts year month day = year_read (year_part year) month day
