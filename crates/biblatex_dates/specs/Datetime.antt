-- Points in time: what a year, a month, a day and a time mean as written.
use Rattle.std.specs.Prelude.{ℕ, Option, Some, None, Result, Ok, Err, ℤ}
use Rattle.std.specs.Option.{option_and}
use Rattle.date_parts.specs.Dates.{of_year}
use Rattle.date_parts.specs.declared.dates.CalendarDate.{CalendarDate}
use Rattle.date_parts.specs.declared.dates.OutOfRange.{OutOfRange}
use Rattle.date_parts.specs.declared.dates.OutOfRange.TheVariants.{Month, Day}
use Rattle.biblatex_dates.specs.declared.datetime.Datetime.{Datetime}
use Rattle.biblatex_dates.specs.declared.datetime.Time.{Time}
use Rattle.biblatex_dates.specs.declared.error.TypeErrorKind.{TypeErrorKind}
use Rattle.biblatex_dates.specs.declared.error.TypeErrorKind.TheVariants.{WrongNumberOfDigits, MonthOutOfRange, DayOutOfRange}

-- a date without its time
abbrev pub without_time : Datetime → Datetime
without_time d = record { year = d.year; month = d.month; day = d.day; time = None }

-- a date with a time, which only a day has
abbrev pub at_time : Option Time → CalendarDate → Datetime
at_time time d = record { year = d.year; month = d.month; day = d.day; time = option_and d.day time }

-- what is meant, with the time, or what there is not
abbrev pub meant : Option Time → Result CalendarDate OutOfRange → Result Datetime TypeErrorKind
meant time (Ok d) = Ok (at_time time d)
meant time (Err Month) = Err MonthOutOfRange
meant time (Err Day) = Err DayOutOfRange

-- what is meant, or the first fault, year before month before day; a year that is not of four digits is none
abbrev pub datetime_of : Option ℤ → Option ℕ → Option ℕ → Option Time → Result Datetime TypeErrorKind
datetime_of None month day time = Err WrongNumberOfDigits
datetime_of (Some y) month day time = meant time (of_year y month day)
