-- Dates that are no ranges: the one that a text spells. Characters are numbers.
use Rattle.std.specs.Prelude.{ℕ, Bool, true, false, ◌==◌, ◌||◌, List, [], ◌∷◌, if◌then◌else◌, Option, Some, None, Result, Ok, Err, ℤ}
use Rattle.laws.specs.Characters.{plus_sign, hyphen, colon, upper_t, upper_z}
use Rattle.laws.specs.Results.{◌>>=◌}
use Rattle.texts.specs.Reading.{end_at, digits_at, token_at, taken, mark_at}
use Rattle.date_parts.specs.Dates.{of_year}
use Rattle.date_parts.specs.Parts.{part_at, signed}
use Rattle.date_parts.specs.declared.dates.CalendarDate.{CalendarDate}
use Rattle.date_parts.specs.declared.dates.OutOfRange.{OutOfRange}
use Rattle.date_parts.specs.declared.dates.OutOfRange.TheVariants.{Month, Day}
use Rattle.literature_values.specs.declared.date.Date.{Date}
use Rattle.literature_values.specs.declared.date.Side.{Side}
use Rattle.literature_values.specs.declared.date.DateError.{DateError}
use Rattle.literature_values.specs.declared.date.DateError.TheVariants.{UnknownFormat, MonthOutOfBounds, DayOutOfBounds}
use Rattle.texts.specs.declared.reader.Unreadable.{Unreadable}

-- two digits, a colon, two digits
unfoldable pub minutes_at : List ℕ → Result (List ℕ) Unreadable
minutes_at cs = do
  hour ← digits_at 2 2 cs
  after_colon ← token_at colon hour.1
  minute ← digits_at 2 2 after_colon
  Ok minute.1

-- after a colon two digits are wanted
abbrev pub seconds_after : Bool × List ℕ → Result (List ℕ) Unreadable
seconds_after (false, rest) = Ok rest
seconds_after (true, rest) = digits_at 2 2 rest >>= λ d. Ok d.1

-- `Z`, or a sign, hours and minutes, or nothing
abbrev pub offset_at : List ℕ → Result (List ℕ) Unreadable
offset_at [] = Ok []
offset_at (c ∷ cs) = if c == upper_z then Ok cs else (if c == plus_sign || c == hyphen then minutes_at cs else Ok (c ∷ cs))

-- hours and minutes, seconds or none, an offset or none
unfoldable pub clock_at : List ℕ → Result (List ℕ) Unreadable
clock_at cs = do
  minutes ← minutes_at cs
  seconds ← seconds_after (taken colon minutes)
  offset_at seconds

-- after a `T` a time is wanted
abbrev pub clock_after : Bool × List ℕ → Result (List ℕ) Unreadable
clock_after (false, rest) = Ok rest
clock_after (true, rest) = clock_at rest

-- after a day, `T` and a time, or nothing
abbrev pub time_at : Option ℕ → List ℕ → Result (List ℕ) Unreadable
time_at None cs = Ok cs
time_at (Some d) cs = clock_after (taken upper_t cs)

-- a year of four digits
abbrev pub year_at : Bool → List ℕ → Result (ℤ × List ℕ) Unreadable
year_at is_negative cs = digits_at 4 4 cs >>= λ y. Ok (signed is_negative y.0, y.1)

-- a year of four digits; a month, a day and a time, each after the one before it; a mark; and the end
unfoldable pub side_of : List ℕ → Result Side Unreadable
side_of cs = do
  year ← year_at (taken hyphen cs).0 (taken hyphen cs).1
  month ← part_at year.1
  day ← part_at month.1
  time ← time_at day.0 day.1
  rest ← end_at (mark_at time).1
  Ok (record { year = year.0; month = month.0; day = day.0; is_marked = (mark_at time).0 })

-- a date of the calendar as that of a side, which is approximate or not
abbrev pub of_calendar : Bool → CalendarDate → Date
of_calendar is_marked d = record { year = d.year; month = d.month; day = d.day; end = None; approximate = is_marked }

-- what is meant, approximate or not, or what there is not
abbrev pub dated : Bool → Result CalendarDate OutOfRange → Result Date DateError
dated is_marked (Ok d) = Ok (of_calendar is_marked d)
dated is_marked (Err Month) = Err MonthOutOfBounds
dated is_marked (Err Day) = Err DayOutOfBounds

-- the date that a text of the shape means, or the first fault
abbrev pub date_of : Result Side Unreadable → Result Date DateError
date_of (Ok s) = dated s.is_marked (of_year s.year s.month s.day)
date_of (Err e) = Err UnknownFormat
