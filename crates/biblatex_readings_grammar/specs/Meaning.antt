-- What the sides of a date mean, and which fault of several counts.
use Rattle.std.specs.Prelude.{◌≡◌, ℕ, ◌+◌, Bool, true, false, ◌||◌, ◌⊎◌, List, length, Option, Some, None, Result, Ok, Err, ℤ, pos, neg_ℤ}
use Rattle.std.specs.Str.Parse.{digits_value}
use Rattle.biblatex_dates.specs.declared.date.Date.{Date}
use Rattle.biblatex_dates.specs.declared.date.DateValue.{DateValue}
use Rattle.biblatex_dates.specs.declared.date.DateValue.TheVariants.{At, After, Before, Between}
use Rattle.biblatex_dates.specs.declared.datetime.Datetime.{Datetime}
use Rattle.biblatex_dates.specs.declared.error.TypeErrorKind.{TypeErrorKind}
use Rattle.biblatex_dates.specs.declared.error.TypeErrorKind.TheVariants.{InvalidFormat, WrongNumberOfDigits, MonthOutOfRange, DayOutOfRange, Unreadable}
use Rattle.biblatex_readings_grammar.specs.Sides.{Written, Sides, one, since, until, both, IsDate}
use Rattle.biblatex_readings_grammar.specs.Calendar.{IsMonth, IsSeason, HasDay}

-- the number of the year
abbrev pub year_number : Written → ℕ
year_number w = digits_value 10 w.year

-- A year has four digits.
abbrev pub YearIsGood : Written → Type 0
YearIsGood w = length w.year ≡ 4

-- A month, where there is one, is one of twelve or a season.
abbrev pub MonthIsGood : Option ℕ → Type 0
MonthIsGood None = Unit {0}
MonthIsGood (Some m) = IsMonth m ⊎ IsSeason m

-- A day, where there is one, is one that the month has; after a season day and time say nothing, but sign and mark count.
abbrev pub DayIsGood : ℕ → Option ℕ → Option ℕ → Type 0
DayIsGood y (Some m) (Some d) = IsSeason m ⊎ HasDay y m d
DayIsGood y (Some m) None = Unit {0}
DayIsGood y None day = Unit {0}

-- A side without a fault.
abbrev pub IsGood : Written → Type 0
IsGood w = YearIsGood w × MonthIsGood w.month × DayIsGood (year_number w) w.month w.day

-- The fault of a side: its year before its month, its month before its day.
abbrev pub IsFaulty : Written → TypeErrorKind → Type 0
IsFaulty w WrongNumberOfDigits = YearIsGood w → ⊥
IsFaulty w MonthOutOfRange = YearIsGood w × (MonthIsGood w.month → ⊥)
IsFaulty w DayOutOfRange = YearIsGood w × MonthIsGood w.month × (DayIsGood (year_number w) w.month w.day → ⊥)
IsFaulty w InvalidFormat = ⊥
IsFaulty w Unreadable = ⊥

-- a number, negative or not
abbrev pub signed : Bool → ℕ → ℤ
signed true n = neg_ℤ (pos n)
signed false n = pos n

-- What counts from one as it is written counts from zero in what is meant.
abbrev pub Counts : Option ℕ → Option ℕ → Type 0
Counts None meant = meant ≡ None
Counts (Some n) meant = (k : ℕ) × (n ≡ k + 1) × (meant ≡ Some k)

-- A year alone.
abbrev pub IsAlone : Datetime → Type 0
IsAlone d = (d.month ≡ None) × (d.day ≡ None) × (d.time ≡ None)

-- Without a month, and with a season, the year is alone; else the month, the day and the time are those that are written.
abbrev pub MeansPart : Written → Option ℕ → Datetime → Type 0
MeansPart w None d = IsAlone d
MeansPart w (Some m) d = (IsSeason m × IsAlone d) ⊎ (IsMonth m × Counts (Some m) d.month × Counts w.day d.day × (d.time ≡ w.time))

-- What a side without a fault means.
abbrev pub MeansSide : Written → Datetime → Type 0
MeansSide w d = IsGood w × (d.year ≡ signed w.negative (year_number w)) × MeansPart w w.month d

-- What the sides mean.
abbrev pub MeansValue : Sides → DateValue → Type 0
MeansValue (one w) v = (d : Datetime) × MeansSide w d × (v ≡ At d)
MeansValue (since w) v = (d : Datetime) × MeansSide w d × (v ≡ After d)
MeansValue (until w) v = (d : Datetime) × MeansSide w d × (v ≡ Before d)
MeansValue (both w x) v = (c : Datetime) × (d : Datetime) × MeansSide w c × MeansSide x d × (v ≡ Between c d)

-- The mark of a side is the date's.
abbrev pub is_uncertain : Sides → Bool
is_uncertain (one w) = w.uncertain
is_uncertain (since w) = w.uncertain
is_uncertain (until w) = w.uncertain
is_uncertain (both w x) = w.uncertain || x.uncertain

abbrev pub is_approximate : Sides → Bool
is_approximate (one w) = w.approximate
is_approximate (since w) = w.approximate
is_approximate (until w) = w.approximate
is_approximate (both w x) = w.approximate || x.approximate

-- The date that the sides mean.
abbrev pub MeansDate : Sides → Date → Type 0
MeansDate s d = MeansValue s d.value × (d.uncertain ≡ is_uncertain s) × (d.approximate ≡ is_approximate s)

-- The fault of the first faulty side.
abbrev pub HasFault : Sides → TypeErrorKind → Type 0
HasFault (one w) fault = IsFaulty w fault
HasFault (since w) fault = IsFaulty w fault
HasFault (until w) fault = IsFaulty w fault
HasFault (both w x) fault = IsFaulty w fault ⊎ (IsGood w × IsFaulty x fault)

-- What a text is as a date: what its sides mean, or their fault; a text without sides is of no valid format.
abbrev pub IsAnswer : List ℕ → Result Date TypeErrorKind → Type 0
IsAnswer cs (Ok d) = (s : Sides) × IsDate cs s × MeansDate s d
IsAnswer cs (Err fault) = ((s : Sides) × IsDate cs s × HasFault s fault) ⊎ ((fault ≡ InvalidFormat) × ((s : Sides) → IsDate cs s → ⊥))
