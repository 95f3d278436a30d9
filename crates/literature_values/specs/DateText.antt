-- How dates and ranges are written, and which of them are read back.
use Rattle.std.specs.Prelude.{ℕ, ◌+◌, ◌<◌, ◌≤◌, Bool, true, false, List, [], ◌∷◌, ◌++◌, Option, Some, None, ℤ, unsigned_abs, codes}
use Rattle.laws.specs.Characters.{tilde}
use Rattle.jiff.specs.Words.{days_in_month}
use Rattle.date_parts.specs.Written.{year_text, counted_text}
use Rattle.literature_values.specs.declared.date.Date.{Date}
use Rattle.literature_values.specs.declared.date.DateEnd.{DateEnd}
use Rattle.literature_values.specs.declared.date.DateEnd.TheVariants.{On, Open}

-- the day, where there is one
abbrev pub day_text : Option ℕ → List ℕ
day_text None = []
day_text (Some d) = counted_text d

-- the month and the day, where there is a month; a day is written after its month alone
abbrev pub month_text : Option ℕ → Option ℕ → List ℕ
month_text None day = []
month_text (Some m) day = counted_text m ++ day_text day

-- the year, the month and the day of a side
abbrev pub side_text : ℤ → Option ℕ → Option ℕ → List ℕ
side_text y month day = year_text y ++ month_text month day

-- a tilde, where the date is approximate
abbrev pub mark_text : Bool → List ℕ
mark_text false = []
mark_text true = tilde ∷ []

-- What stands after the first side. The mark is after the last side that there is.
abbrev pub end_text : Bool → Option DateEnd → List ℕ
end_text approximate None = mark_text approximate
end_text approximate (Some (On y month day)) = codes "/" ++ (side_text y month day ++ mark_text approximate)
end_text approximate (Some Open) = mark_text approximate ++ codes "/.."

-- the first side, and what stands after it
abbrev pub date_text : Date → List ℕ
date_text d = side_text d.year d.month d.day ++ end_text d.approximate d.end

-- the month has the day; months and days count from zero
abbrev pub HasDay : ℤ → ℕ → Option ℕ → Type 0
HasDay y m None = Unit {0}
HasDay y m (Some d) = d < days_in_month y (m + 1)

-- the year has the month and the day; there is no day without a month
abbrev pub HasMonth : ℤ → Option ℕ → Option ℕ → Type 0
HasMonth y None None = Unit {0}
HasMonth y None (Some d) = ⊥
HasMonth y (Some m) day = (m < 12) × HasDay y m day

-- a side of the calendar, of a year from -9999 to 9999
abbrev pub SideExists : ℤ → Option ℕ → Option ℕ → Type 0
SideExists y month day = (unsigned_abs y ≤ 9999) × HasMonth y month day

-- the same of what a range ends with, if that is a side
abbrev pub EndExists : Option DateEnd → Type 0
EndExists None = Unit {0}
EndExists (Some (On y month day)) = SideExists y month day
EndExists (Some Open) = Unit {0}

-- each side exists
abbrev pub Exists : Date → Type 0
Exists d = SideExists d.year d.month d.day × EndExists d.end
