-- Dates in fields.
use Rattle.std.specs.Prelude.{List, Result}
use Rattle.biblatex_content.specs.declared.chunk.Kind.TheVariants.{Normal}
use Rattle.biblatex_content.specs.Styled.{Member, letters, plain}
use Rattle.biblatex_dates.specs.Shape.{shape_of, date_of}
use Rattle.biblatex_dates.specs.Written.{date_text, SidesExist}
use Rattle.biblatex_dates.specs.declared.date.Date.{Date}
use Rattle.biblatex_dates.specs.declared.error.TypeErrorKind.{TypeErrorKind}

-- the date that the text is, or its first fault
abbrev pub reads_date : List Member → Result Date TypeErrorKind
reads_date ms = date_of (shape_of (plain ms))

abbrev pub writes_date : Date → List Member
writes_date d = letters Normal (date_text d)

-- there are its years, months, days and times
abbrev pub IsDate : Date → Type 0
IsDate d = SidesExist d.value
