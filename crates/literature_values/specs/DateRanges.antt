-- Dates and ranges: a side alone; two sides with a slash between; a side, a slash and two points where the range is open. Characters
-- are numbers.
use Rattle.std.specs.Prelude.{ℕ, Bool, not, ◌==◌, ◌||◌, List, [], ◌∷◌, if◌then◌else◌, Some, Result, Ok, Err}
use Rattle.std.specs.Str.{bytes_eq}
use Rattle.laws.specs.Characters.{full_stop, slash}
use Rattle.laws.specs.Results.{◌>>=◌}
use Rattle.laws.specs.Runs.{prefix_of, after}
use Rattle.literature_values.specs.Dates.{side_of, date_of}
use Rattle.literature_values.specs.declared.date.Date.{Date}
use Rattle.literature_values.specs.declared.date.Side.{Side}
use Rattle.literature_values.specs.declared.date.DateEnd.TheVariants.{On, Open}
use Rattle.literature_values.specs.declared.date.DateError.{DateError}
use Rattle.literature_values.specs.declared.date.DateError.TheVariants.{UnknownFormat}
use Rattle.texts.specs.declared.reader.Unreadable.{Unreadable}

-- a side ends at a slash
abbrev pub is_of_side : ℕ → Bool
is_of_side c = not (c == slash)

-- two points, which say that a range has no end yet
abbrev pub is_open : List ℕ → Bool
is_open cs = bytes_eq cs (full_stop ∷ full_stop ∷ [])

-- a range without an end yet
abbrev pub with_open_end : Date → Date
with_open_end d = record d { end = Some Open }

-- a range with an end; it is approximate where one of its sides is
abbrev pub with_end : Date → Date → Date
with_end d e = record d { end = Some (On e.year e.month e.day); approximate = d.approximate || e.approximate }

-- a side as written, or that the text is none
abbrev pub shaped : Result Side Unreadable → Result Side DateError
shaped (Ok s) = Ok s
shaped (Err e) = Err UnknownFormat

-- The range between two sides. Both are of the shape before one of them is compared with the calendar.
unfoldable pub between : List ℕ → List ℕ → Result Date DateError
between a b = do
  first ← shaped (side_of a)
  last ← shaped (side_of b)
  start ← date_of (Ok first)
  end ← date_of (Ok last)
  Ok (with_end start end)

-- what a text spells by its first side and what follows it
abbrev pub range_with : List ℕ → List ℕ → Result Date DateError
range_with a [] = date_of (side_of a)
range_with a (c ∷ b) = if is_open b then (date_of (side_of a) >>= λ d. Ok (with_open_end d)) else between a b

-- the date or range that a text spells, or the first fault
abbrev pub range_of : List ℕ → Result Date DateError
range_of cs = range_with (prefix_of is_of_side cs) (after is_of_side cs)
