-- Texts in fields. Characters are numbers.
use Rattle.std.specs.Prelude.{ℕ, List, Result, Ok}
use Rattle.biblatex_content.specs.declared.chunk.Kind.TheVariants.{Normal}
use Rattle.biblatex_content.specs.Styled.{Member, letters, plain}
use Rattle.biblatex_dates.specs.declared.error.TypeErrorKind.{TypeErrorKind}

-- each styled text is read, as its characters
abbrev pub reads_text : List Member → Result (List ℕ) TypeErrorKind
reads_text ms = Ok (plain ms)

abbrev pub writes_text : List ℕ → List Member
writes_text cs = letters Normal cs

-- every text is read back
abbrev pub IsText : List ℕ → Type 0
IsText cs = Unit {0}
