-- The laws that tie the relations of contents to what is read.
use Rattle.std.specs.Prelude.{◌≡◌, ◌↔◌, ℕ, List, Ok, Err}
use Rattle.biblatex_tex.specs.declared.error.ContentError.TheVariants.{MalformedCommand}
use Rattle.biblatex_content.specs.Styled.{Member}
use Rattle.biblatex_content.specs.Ordinary.{ordinary}
use Rattle.biblatex_content.specs.Verbatim.{verbatim_text}
use Rattle.biblatex_content.specs.Tidy.{tidied}
use Rattle.biblatex_readings_grammar.specs.Ordinary.{IsOrdinary}
use Rattle.biblatex_readings_grammar.specs.Verbatim.{IsVerbatim}
use Rattle.biblatex_readings_grammar.specs.Tidied.{IsTidied}

-- A piece of an ordinary field is read as these members exactly where it is related to them.
abbrev pub ReadIsWhatIsRelated : Type 0
ReadIsWhatIsRelated = (cs : List ℕ) (ms : List Member) → (ordinary cs ≡ Ok ms) ↔ IsOrdinary cs ms

-- No piece of an ordinary field has two readings.
abbrev pub ReadingsAreUnique : Type 0
ReadingsAreUnique = (cs : List ℕ) (ms ns : List Member) → IsOrdinary cs ms → IsOrdinary cs ns → ms ≡ ns

-- A piece of an ordinary field is malformed exactly where no members are related to it.
abbrev pub MalformedIsUnrelated : Type 0
MalformedIsUnrelated = (cs : List ℕ) → (ordinary cs ≡ Err MalformedCommand) ↔ ((ms : List Member) → IsOrdinary cs ms → ⊥)

-- A piece of a verbatim field is read as this text exactly where it is related to it.
abbrev pub VerbatimIsWhatIsRelated : Type 0
VerbatimIsWhatIsRelated = (cs t : List ℕ) → (verbatim_text cs ≡ t) ↔ IsVerbatim cs t

-- A text is tidied to exactly what is related to it.
abbrev pub TidiedIsWhatIsRelated : Type 0
TidiedIsWhatIsRelated = (ms ns : List Member) → (tidied ms ≡ ns) ↔ IsTidied ms ns
