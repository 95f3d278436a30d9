-- When two bib texts are alike for a task: they may differ in all but what their cited entries answer to the style and the sections.
use Rattle.std.specs.Prelude.{◌≡◌, ℕ, List, map, filter, Contains, Result, Ok}
use Rattle.literature_entries.specs.EntriesData.{EntryData}
use Rattle.literature.specs.Holding.{holds_at}
use Rattle.literature.specs.Trees.{Tree}
use Rattle.interop.specs.Library.{key_of}
use Rattle.rendering_entries.specs.Library.{answers_of}
use Rattle.rendering_style.specs.Styles.{Style}
use Rattle.rendering_nodes.specs.Named.{AreAlike}
use Rattle.rendering.specs.Alike.{style_named}
use Rattle.cite_markers.specs.Document.{Piece}
use Rattle.cite_requests.specs.Cited.{is_among}
use Rattle.cite_requests.specs.Markers.{CitedWork}
use Rattle.cite_requests.specs.Requests.{works_in}
use Rattle.cite_requests.specs.Stages.{Refusal, AreWorksOf, document_stage, name_stage, section_stage}
use Rattle.cite.specs.Verdict.{Task, IsVerdict}
use Rattle.cite_requests.specs.Works.{Works}

-- the document and the sections of a task are read
pub record IsTaskRead (task : Task) : Type 0 where
  pub pieces : List Piece
  pub selectors : List Tree
  pub document : document_stage task.document ≡ Ok pieces
  pub sections : section_stage task.sections ≡ Ok selectors

-- a bib text comes to works, and each name in the pieces of a document means one
pub record IsBibRead (bib : List ℕ) (pieces : List Piece) : Type 0 where
  pub works : Works
  pub markers : List (List CitedWork)
  pub read : AreWorksOf bib (Ok works)
  pub names : name_stage works pieces ≡ Ok markers

-- the keys of the works that are cited, cite by cite
abbrev pub keys_by_cite : {bib : List ℕ} {pieces : List Piece} → IsBibRead bib pieces → List (List ℕ)
keys_by_cite b = map key_of (works_in b.markers)

-- the keys of the works that are cited, in the order of the file
abbrev pub keys_in_order : {bib : List ℕ} {pieces : List Piece} → IsBibRead bib pieces → List (List ℕ)
keys_in_order b = filter (is_among (keys_by_cite b)) (map key_of b.works.library)

-- Two works answer alike, in all forms, to the variables and kinds that the style names and to those that every style names, a style of a
-- CSL file also to what is written for the variables that it names, and each selector holds at both or at neither.
pub record AgreeFor (style : Style) (selectors : List Tree) (v w : EntryData) : Type 0 where
  pub answers : AreAlike (style_named style) (answers_of v) (answers_of w)
  pub sections : (s : Tree) → Contains selectors s → holds_at s v ≡ holds_at s w

-- cited works of one key agree
abbrev pub CitedAgree : Style → List Tree → List EntryData → List EntryData → Type 0
CitedAgree style selectors first second =
    (v w : EntryData) → Contains first v → Contains second w → key_of v ≡ key_of w → AgreeFor style selectors v w

-- Two bib texts are alike for a task: no stage refuses either; each cited name means entries of one key in both; the cited entries stand
-- in the same relative order; and cited entries of one key answer alike to the style, and are chosen by the same sections.
pub record AreAlikeFor (bib other : List ℕ) (task : Task) : Type 0 where
  pub asked : IsTaskRead task
  pub first : IsBibRead bib asked.pieces
  pub second : IsBibRead other asked.pieces
  pub keys : keys_by_cite first ≡ keys_by_cite second
  pub order : keys_in_order first ≡ keys_in_order second
  pub agree : CitedAgree task.context.style asked.selectors (works_in first.markers) (works_in second.markers)

-- this holds of each bib text that is alike to one
abbrev pub ForAlike : List ℕ → Task → (List ℕ → Type 0) → Type 0
ForAlike bib task P = (other : List ℕ) → AreAlikeFor bib other task → P other

-- Alike bib texts have the same output, or are refused alike where a number or a year suffix is too great.
abbrev pub AlikeTextsHaveOneVerdict : Type 0
AlikeTextsHaveOneVerdict =
    (bib other : List ℕ) (task : Task) → AreAlikeFor bib other task
    → (answer : Result (List ℕ) Refusal) → IsVerdict bib task answer → IsVerdict other task answer
