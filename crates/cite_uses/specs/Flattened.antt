-- What is made of a BibLaTeX file for tools that follow no references.
use Rattle.std.specs.Prelude.{◌≡◌, ◌↔◌, ℕ, Bool, not, List, map, is_some, option_and_then, Option, Some, None, Result, Ok, Err}
use Rattle.std.specs.Map.{lookup}
use Rattle.std.specs.Str.{bytes_eq}
use Rattle.biblatex.specs.Listed.{Listed}
use Rattle.biblatex.specs.Entries.{Source}
use Rattle.biblatex.specs.Fields.{Named, value_named}
use Rattle.biblatex.specs.Reading as reading
use Rattle.biblatex_writing.specs.FieldNames.{other_names, written_name}
use Rattle.biblatex_writing.specs.Settled.{are_distinct}
use Rattle.cite.specs.Roads.{IsSettledFile, rewritten}
use Rattle.cite_requests.specs.Stages.{Refusal, IsRead, bib_refused}
use Rattle.cite.specs.Verdict.{Task, IsVerdict}

-- a field has the other name under which a field of this name may be read
abbrev pub has_other : List Named → List ℕ → Bool
has_other fs name = is_some (option_and_then (λ other. value_named other fs) (lookup (bytes_eq name) other_names))

-- none of the fields has the other name of this one
abbrev pub is_alone : List Named → Named → Bool
is_alone fs f = not (has_other fs f.0)

-- no two fields of an entry are written under one name
abbrev pub is_written_apart : Source → Bool
is_written_apart e = are_distinct (map (λ f. written_name f.0) e.fields)

-- Each document has the same output with both bib texts, or is refused at the same stage with the same fault, whatever else is asked.
abbrev pub HaveTheSameVerdicts : List ℕ → List ℕ → Type 0
HaveTheSameVerdicts bib other = (task : Task) (answer : Result (List ℕ) Refusal) → IsVerdict bib task answer ↔ IsVerdict other task answer

-- What is given of a bib text: the text that is written of its entries without `crossref`, where these are settled and none has two fields
-- that are written under one name; none where they are not so; or why the bib text is refused.
abbrev pub IsFlattening : List ℕ → Result (Option (List ℕ)) reading.Refusal → Type 0
IsFlattening bib (Ok (Some text)) = (file : Listed) × IsSettledFile bib file × (text ≡ rewritten file)
IsFlattening bib (Ok None) = (file : Listed) × IsRead bib (Ok file) × (IsSettledFile bib file → ⊥)
IsFlattening bib (Err refusal) = IsRead bib (Err (bib_refused refusal))
