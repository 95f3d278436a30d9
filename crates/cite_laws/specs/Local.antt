-- What is not cited changes nothing: of a bib text a document sees the entries that its names reach by references, and no others.
use Rattle.std.specs.Prelude.{◌≡◌, ◌↔◌, ℕ, List, Result}
use Rattle.std.specs.Str.{chars}
use Rattle.biblatex.specs.Listed.{Listed}
use Rattle.biblatex_laws.specs.Differing.{BareEntry, HasOneMore, MeansOneKey, NoAbbreviationChanges}
use Rattle.biblatex_laws.specs.Files.{IsFileOf}
use Rattle.biblatex_laws.specs.Reached.{IsReached, SayTheSameOf}
use Rattle.cite_requests.specs.Markers.{names_cited}
use Rattle.cite_requests.specs.Stages.{Refusal}
use Rattle.cite.specs.Verdict.{Task, IsVerdict}
use Rattle.cite.specs.Alike.{IsTaskRead, IsBibRead, AreAlikeFor, keys_in_order}

-- two bib texts that no stage refuses, with their entries before references are resolved
pub record AreRead (bib other : List ℕ) (task : Task) : Type 0 where
  pub asked : IsTaskRead task
  pub first : IsBibRead bib asked.pieces
  pub second : IsBibRead other asked.pieces
  pub file : Listed
  pub other_file : Listed
  pub loaded : IsFileOf (chars bib) file first.works.file
  pub other_loaded : IsFileOf (chars other) other_file second.works.file

-- Bib texts are alike in which each name that the document reaches means entries that say the same, and the cited entries stand in one
-- relative order.
abbrev pub ReachedEntriesDecide : Type 0
ReachedEntriesDecide =
    (bib other : List ℕ) (task : Task) (r : AreRead bib other task)
    → SayTheSameOf (names_cited r.asked.pieces) r.file r.other_file → keys_in_order r.first ≡ keys_in_order r.second
    → AreAlikeFor bib other task

-- Such bib texts have one verdict: the same output, or the same refusal where a number or a year suffix is too great.
abbrev pub ReachedEntriesDecideTheOutput : Type 0
ReachedEntriesDecideTheOutput =
    (bib other : List ℕ) (task : Task) (r : AreRead bib other task)
    → SayTheSameOf (names_cited r.asked.pieces) r.file r.other_file → keys_in_order r.first ≡ keys_in_order r.second
    → (answer : Result (List ℕ) Refusal) → IsVerdict bib task answer ↔ IsVerdict other task answer

-- Of two bib texts that are read the second has one raw entry more, which the document does not reach: each name that it reaches means
-- entries of one key in both. No abbreviation changes that a field of a reached entry opens.
pub record DifferByOne (bib other : List ℕ) (task : Task) (r : AreRead bib other task) : Type 0 where
  pub extra : BareEntry
  pub one_more : HasOneMore r.loaded.raw r.other_loaded.raw extra
  pub names : (name : List ℕ) → IsReached r.file (names_cited r.asked.pieces) name → MeansOneKey r.file r.other_file name
  pub abbreviations : NoAbbreviationChanges (names_cited r.asked.pieces) r.file r.loaded.raw r.other_loaded.raw

-- Such bib texts are alike.
abbrev pub OneUnreachedEntryChangesNothing : Type 0
OneUnreachedEntryChangesNothing = (bib other : List ℕ) (task : Task) (r : AreRead bib other task) → DifferByOne bib other task r → AreAlikeFor bib other task

-- And they have one verdict: the same output, or the same refusal where a number or a year suffix is too great.
abbrev pub OneUnreachedEntryPrintsNothing : Type 0
OneUnreachedEntryPrintsNothing =
    (bib other : List ℕ) (task : Task) (r : AreRead bib other task) → DifferByOne bib other task r
    → (answer : Result (List ℕ) Refusal) → IsVerdict bib task answer ↔ IsVerdict other task answer
