-- How dates are written, and which of them are read back. Characters are numbers.
use Rattle.std.specs.Prelude.{ℕ, ◌+◌, ◌<◌, ◌≤◌, Bool, true, false, List, [], ◌∷◌, ◌++◌, Option, Some, None, ℤ, unsigned_abs, codes}
use Rattle.laws.specs.Characters.{plus_sign, hyphen, colon, upper_t, upper_z}
use Rattle.jiff.specs.Words.{days_in_month}
use Rattle.date_parts.specs.Written.{padded, year_text, counted_text}
use Rattle.biblatex_dates.specs.declared.date.Date.{Date}
use Rattle.biblatex_dates.specs.declared.date.DateValue.{DateValue}
use Rattle.biblatex_dates.specs.declared.date.DateValue.TheVariants.{At, After, Before, Between}
use Rattle.biblatex_dates.specs.declared.datetime.Datetime.{Datetime}
use Rattle.biblatex_dates.specs.declared.datetime.Time.{Time}
use Rattle.biblatex_dates.specs.declared.datetime.TimeOffset.{TimeOffset}
use Rattle.biblatex_dates.specs.declared.datetime.TimeOffset.TheVariants.{Utc, Offset}

-- a character, and two digits or more after it
abbrev pub following : ℕ → ℕ → List ℕ
following c n = c ∷ padded 2 n

-- a plus or a hyphen
abbrev pub sign : Bool → ℕ
sign true = plus_sign
sign false = hyphen

-- a sign, hours, a colon and minutes
abbrev pub signed_offset_text : Bool → ℕ → ℕ → List ℕ
signed_offset_text positive hours minutes = following (sign positive) hours ++ following colon minutes

-- `Z`, or how far a clock is from it
abbrev pub offset_text : Option TimeOffset → List ℕ
offset_text None = []
offset_text (Some Utc) = upper_z ∷ []
offset_text (Some (Offset positive hours minutes)) = signed_offset_text positive hours minutes

-- `T`, hours, minutes and seconds with colons between, and the offset
abbrev pub clock_text : Time → List ℕ
clock_text t = following upper_t t.hour ++ (following colon t.minute ++ (following colon t.second ++ offset_text t.offset))

abbrev pub time_text : Option Time → List ℕ
time_text None = []
time_text (Some t) = clock_text t

-- a time is written after a day alone
abbrev pub day_text : Option ℕ → Option Time → List ℕ
day_text None time = []
day_text (Some d) time = counted_text d ++ time_text time

-- a day is written after a month alone
abbrev pub month_text : Option ℕ → Option ℕ → Option Time → List ℕ
month_text None day time = []
month_text (Some m) day time = counted_text m ++ day_text day time

-- the year, the month, the day and the time
abbrev pub datetime_text : Datetime → List ℕ
datetime_text d = year_text d.year ++ month_text d.month d.day d.time

-- the sides, with two points and a slash for an open start
abbrev pub sides_text : DateValue → List ℕ
sides_text (At d) = datetime_text d
sides_text (After d) = datetime_text d
sides_text (Before d) = codes "../" ++ datetime_text d
sides_text (Between c d) = datetime_text c ++ (codes "/" ++ datetime_text d)

-- a slash and two points for an open end
abbrev pub end_text : DateValue → List ℕ
end_text (At d) = []
end_text (After d) = codes "/.."
end_text (Before d) = []
end_text (Between c d) = []

-- `?` for an uncertain date, `~` for an approximate one, `%` for one that is both
abbrev pub mark_text : Bool → Bool → List ℕ
mark_text false false = []
mark_text true false = codes "?"
mark_text false true = codes "~"
mark_text true true = codes "%"

-- the mark stands after the last side
abbrev pub date_text : Date → List ℕ
date_text d = sides_text d.value ++ (mark_text d.uncertain d.approximate ++ end_text d.value)

-- an offset in hours and minutes of two digits
abbrev pub IsOffset : Option TimeOffset → Type 0
IsOffset None = Unit {0}
IsOffset (Some Utc) = Unit {0}
IsOffset (Some (Offset positive hours minutes)) = (hours < 100) × (minutes < 100)

-- a time in hours, minutes and seconds of two digits
abbrev pub IsTime : Option Time → Type 0
IsTime None = Unit {0}
IsTime (Some t) = (t.hour < 100) × (t.minute < 100) × (t.second < 100) × IsOffset t.offset

-- the month has the day; months and days count from zero; there is no time without a day
abbrev pub HasDay : ℤ → ℕ → Option ℕ → Option Time → Type 0
HasDay y m None None = Unit {0}
HasDay y m None (Some t) = ⊥
HasDay y m (Some d) time = (d < days_in_month y (m + 1)) × IsTime time

-- the year has the month; there is no day and no time without a month
abbrev pub HasMonth : ℤ → Option ℕ → Option ℕ → Option Time → Type 0
HasMonth y None None None = Unit {0}
HasMonth y None None (Some t) = ⊥
HasMonth y None (Some d) time = ⊥
HasMonth y (Some m) day time = (m < 12) × HasDay y m day time

-- a year from -9999 to 9999, or a month, a day or a time of it
abbrev pub Exists : Datetime → Type 0
Exists d = (unsigned_abs d.year ≤ 9999) × HasMonth d.year d.month d.day d.time

-- each side exists
abbrev pub SidesExist : DateValue → Type 0
SidesExist (At d) = Exists d
SidesExist (After d) = Exists d
SidesExist (Before d) = Exists d
SidesExist (Between c d) = Exists c × Exists d
