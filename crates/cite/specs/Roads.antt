-- Two roads to one output: a bib text, and the text that is written of its entries without `crossref`.
use Rattle.std.specs.Prelude.{◌≡◌, ◌↔◌, ℕ, true, List, Result, Ok}
use Rattle.biblatex.specs.Listed.{Listed}
use Rattle.biblatex_writing.specs.Flat.{flat}
use Rattle.biblatex_writing.specs.Settled.{is_settled}
use Rattle.biblatex_writing.specs.Written.{written_file}
use Rattle.interop_roads.specs.Roads.{AreWrittenApart}
use Rattle.cite_requests.specs.Stages.{Refusal, IsRead}
use Rattle.cite.specs.Verdict.{Task, IsVerdict}

-- A bib text is read as this file, whose entries without `crossref` are settled, and have no two fields in one entry that are written
-- under one name.
pub record IsSettledFile (bib : List ℕ) (file : Listed) : Type 0 where
  pub read : IsRead bib (Ok file)
  pub settled : is_settled (flat file.entries) ≡ true
  pub apart : AreWrittenApart (flat file.entries)

-- the text that is written of the entries of a file without `crossref`
abbrev pub rewritten : Listed → List ℕ
rewritten file = written_file (flat file.entries)

-- this holds of the rewriting of each file as which a bib text is read, if its entries are settled without `crossref`
abbrev pub ForRewriting : List ℕ → (List ℕ → Type 0) → Type 0
ForRewriting bib P = (file : Listed) → IsSettledFile bib file → P (rewritten file)

-- Both have the same output, or are refused at the same stage with the same fault.
abbrev pub RewritingHasTheSameVerdicts : Type 0
RewritingHasTheSameVerdicts =
    (bib : List ℕ) (file : Listed) (task : Task) → IsSettledFile bib file
    → (answer : Result (List ℕ) Refusal) → IsVerdict bib task answer ↔ IsVerdict (rewritten file) task answer
