-- The stages of a call: what each gives, or why it refuses.
use Rattle.std.specs.Prelude.{◌≡◌, ℕ, Bool, true, false, List, if◌then◌else◌, Result, Ok, Err}
use Rattle.std.specs.Str.{chars, is_utf8}
use Rattle.laws.specs.Results.{◌>>=◌}
use Rattle.biblatex.specs.Listed.{Listed}
use Rattle.biblatex.specs.Reading as reading
use Rattle.biblatex.specs.Resolved.{TextMeans}
use Rattle.literature_entries.specs.EntriesData.{EntryData}
use Rattle.literature.specs.Trees.{Tree}
use Rattle.interop.specs.Bridge.{Fault}
use Rattle.interop.specs.Library.{library_of}
use Rattle.cite_markers.specs.Document.{Piece, document_of}
use Rattle.cite_requests.specs.Markers.{CitedWork, cited_works}
use Rattle.cite_requests.specs.Sections.{SectionFault, selectors_of}
use Rattle.cite_requests.specs.Works.{Works}

-- why a call refuses
pub data Refusal : Type 0 where
  bib_not_utf8 : Refusal
  bib_refused : reading.Refusal → Refusal
  fields_refused : List Fault → Refusal
  document_not_utf8 : Refusal
  no_marker : ℕ → Refusal
  unknown_name : List ℕ → Refusal
  section_refused : SectionFault → Refusal
  overflow : Refusal

-- what a stage gives, or the refusal that its fault is
abbrev pub refused_as : {F X : Type 0} → (F → Refusal) → Result X F → Result X Refusal
refused_as refusal (Ok x) = Ok x
refused_as refusal (Err fault) = Err (refusal fault)

-- the first stage, where bytes that are no text are refused, and then a text that is no bibliography
abbrev pub IsReadIf : Bool → List ℕ → Result Listed Refusal → Type 0
IsReadIf false bib read = read ≡ Err bib_not_utf8
IsReadIf true bib read = (meaning : Result Listed reading.Refusal) × TextMeans (chars bib) meaning × (read ≡ refused_as bib_refused meaning)

abbrev pub IsRead : List ℕ → Result Listed Refusal → Type 0
IsRead bib read = IsReadIf (is_utf8 bib) bib read

-- the second stage, where entries with fields that cannot be read are refused, all faults together
abbrev pub works_from : Listed → Result (List EntryData) (List Fault) → Result Works Refusal
works_from file (Ok library) = Ok (record { file = file; library = library })
works_from file (Err faults) = Err (fields_refused faults)

abbrev pub library_stage : Listed → Result Works Refusal
library_stage file = works_from file (library_of file.entries)

-- what the bytes of a bib text come to after both
abbrev pub AreWorksOf : List ℕ → Result Works Refusal → Type 0
AreWorksOf bib works = (read : Result Listed Refusal) × IsRead bib read × (works ≡ read >>= library_stage)

-- the third stage, where bytes that are no text are refused, and then the first opening that no marker follows
abbrev pub document_stage : List ℕ → Result (List Piece) Refusal
document_stage document = if is_utf8 document then refused_as no_marker (document_of (chars document)) else Err document_not_utf8

-- the fourth stage, where the first name that means no work is refused
abbrev pub name_stage : Works → List Piece → Result (List (List CitedWork)) Refusal
name_stage works pieces = refused_as unknown_name (cited_works works pieces)

-- the fifth stage, where the first section that is no selector is refused
abbrev pub section_stage : List (List ℕ) → Result (List Tree) Refusal
section_stage sections = refused_as section_refused (selectors_of sections)
