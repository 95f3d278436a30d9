-- Documents that differ in the names of their cites alone: each name stands in the place of one that means the same work.
use Rattle.std.specs.Prelude.{◌≡◌, ◌↔◌, ℕ, List, Result, Ok}
use Rattle.std.specs.List.{AllZip}
use Rattle.laws.specs.Text.{text}
use Rattle.cite_markers.specs.Document.{Piece, Text, Marker}
use Rattle.cite_markers.specs.Marker.{Cite}
use Rattle.cite.specs.Alike.{IsBibRead}
use Rattle.cite_requests.specs.Stages.{Refusal, document_stage}
use Rattle.cite.specs.Verdict.{Task, IsVerdict}
use Rattle.cite_requests.specs.Works.{Works, meaning}

-- two cites are the same but for their names, which mean the same work
pub record AreOneCite (works : Works) (c d : Cite) : Type 0 where
  pub means : meaning (text c.name) works ≡ meaning (text d.name) works
  pub hidden : c.hidden ≡ d.hidden
  pub purpose : c.purpose ≡ d.purpose
  pub locator : c.locator ≡ d.locator

-- two pieces are the same text, or markers whose cites are the same but for such names
abbrev pub AreOnePiece : Works → Piece → Piece → Type 0
AreOnePiece works (Text t) (Text u) = t ≡ u
AreOnePiece works (Marker cites) (Marker others) = AllZip (AreOneCite works) cites others
AreOnePiece works p q = ⊥

-- Two documents are read as the same pieces but for such names, and each name of the first means a work of the bib text.
pub record DifferInNames (bib document other : List ℕ) : Type 0 where
  pub pieces : List Piece
  pub others : List Piece
  pub read : document_stage document ≡ Ok pieces
  pub read_other : document_stage other ≡ Ok others
  pub file : IsBibRead bib pieces
  pub same : AllZip (AreOnePiece file.works) pieces others

-- Such documents have one verdict: the same output, or the same refusal.
abbrev pub OtherNamesPrintTheSame : Type 0
OtherNamesPrintTheSame =
    (bib : List ℕ) (task : Task) (other : List ℕ) → DifferInNames bib task.document other
    → (answer : Result (List ℕ) Refusal) → IsVerdict bib task answer ↔ IsVerdict bib (record task { document = other }) answer
