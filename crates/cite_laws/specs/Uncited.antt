-- Entries that are put between two parts of a bib text, and that the document does not reach.
use Rattle.std.specs.Prelude.{◌≡◌, ◌↔◌, ℕ, true, List, ◌++◌, Result}
use Rattle.std.specs.Str.{chars, is_utf8}
use Rattle.biblatex.specs.Raw.{At, Entry}
use Rattle.biblatex.specs.Listed.{Listed}
use Rattle.biblatex_laws.specs.Between.{ArePutBetween, AreUnreached}
use Rattle.biblatex_laws.specs.Files.{IsFileOf}
use Rattle.cite_markers.specs.Document.{Piece}
use Rattle.cite_requests.specs.Stages.{Refusal}
use Rattle.cite.specs.Verdict.{Task, IsVerdict}
use Rattle.cite.specs.Alike.{IsTaskRead, IsBibRead}
use Rattle.cite_requests.specs.Markers.{names_cited}

-- the bytes of two parts of a bib text, and those of entries that can be put between them
pub record ArePutTogether (front more back : List ℕ) : Type 0 where
  pub front_utf8 : is_utf8 front ≡ true
  pub more_utf8 : is_utf8 more ≡ true
  pub between : ArePutBetween (chars front) (chars more) (chars back)

-- no name that a document reaches in a bib text means one of these entries
abbrev pub AreUncited : List ℕ → List Piece → List (At Entry) → Type 0
AreUncited bib pieces es = (file resolved : Listed) → IsFileOf (chars bib) file resolved → AreUnreached file (names_cited pieces) es

-- With more entries, put before, between or after others, a bib text has the same output, if the document reaches none of them, and no stage
-- refuses the text with them or without them.
abbrev pub UncitedEntriesChangeNothing : Type 0
UncitedEntriesChangeNothing =
    (front more back : List ℕ) (task : Task) (asked : IsTaskRead task) (put : ArePutTogether front more back)
    → IsBibRead (front ++ back) asked.pieces → IsBibRead (front ++ (more ++ back)) asked.pieces
    → AreUncited (front ++ (more ++ back)) asked.pieces put.between.more_raw.entries
    → (answer : Result (List ℕ) Refusal) → IsVerdict (front ++ back) task answer ↔ IsVerdict (front ++ (more ++ back)) task answer
