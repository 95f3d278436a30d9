-- The laws that tie the grammar of dates to what is read.
use Rattle.std.specs.Prelude.{◌≡◌, ◌↔◌, ℕ, List, Result}
use Rattle.biblatex_dates.specs.Shape.{shape_of, date_of}
use Rattle.biblatex_dates.specs.declared.date.Date.{Date}
use Rattle.biblatex_dates.specs.declared.error.TypeErrorKind.{TypeErrorKind}
use Rattle.biblatex_readings_grammar.specs.Sides.{Sides, IsDate}
use Rattle.biblatex_readings_grammar.specs.Meaning.{IsAnswer}

-- A text is read as this date, or refused with this fault, exactly where the grammar and the calendar say so.
abbrev pub DateIsWhatIsRelated : Type 0
DateIsWhatIsRelated = (cs : List ℕ) (answer : Result Date TypeErrorKind) → (date_of (shape_of cs) ≡ answer) ↔ IsAnswer cs answer

-- No text spells two dates.
abbrev pub SidesAreUnique : Type 0
SidesAreUnique = (cs : List ℕ) (s t : Sides) → IsDate cs s → IsDate cs t → s ≡ t
