-- Dates without their times.
use Rattle.biblatex_dates.specs.Datetime.{without_time}
use Rattle.biblatex_dates.specs.declared.date.Date.{Date}
use Rattle.biblatex_dates.specs.declared.date.DateValue.{DateValue}
use Rattle.biblatex_dates.specs.declared.date.DateValue.TheVariants.{At, After, Before, Between}

-- the dates of a value without their times
abbrev pub value_without_time : DateValue → DateValue
value_without_time (At d) = At (without_time d)
value_without_time (After d) = After (without_time d)
value_without_time (Before d) = Before (without_time d)
value_without_time (Between c d) = Between (without_time c) (without_time d)

-- a date without times, and as sure as it was
abbrev pub date_without_time : Date → Date
date_without_time d = record { value = value_without_time d.value; uncertain = d.uncertain; approximate = d.approximate }
