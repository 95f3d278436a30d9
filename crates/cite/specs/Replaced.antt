-- Outputs and the documents that they are of: the texts of a document come out as they stand in it, and a citation instead of each marker.
use Rattle.std.specs.Prelude.{◌≡◌, ℕ, List, [], ◌∷◌, ◌++◌, Ok}
use Rattle.std.specs.Str.{chars}
use Rattle.laws.specs.Text.{text}
use Rattle.cite_markers.specs.Document.{Piece, Text, Marker, FollowInOrder}
use Rattle.cite_markers.specs.Marker.{Cite}
use Rattle.cite_requests.specs.Markers.{markers_of}
use Rattle.cite_requests.specs.Stages.{document_stage}
use Rattle.cite.specs.Verdict.{Task, IsVerdict}

-- characters are the texts of pieces in order, with a citation instead of each marker, up to what follows
abbrev pub AreReplaced : List ℕ → List Piece → List (List ℕ) → List ℕ → Type 0
AreReplaced cs [] [] rest = cs ≡ rest
AreReplaced cs [] (c ∷ citations) rest = ⊥
AreReplaced cs (Text t ∷ ps) citations rest = (more : List ℕ) × (cs ≡ t ++ more) × AreReplaced more ps citations rest
AreReplaced cs (Marker cites ∷ ps) [] rest = ⊥
AreReplaced cs (Marker cites ∷ ps) (c ∷ citations) rest = (more : List ℕ) × (cs ≡ c ++ more) × AreReplaced more ps citations rest

-- An output is the pieces of a document, with these citations instead of the markers, and a bibliography. The pieces are those that are
-- read of the document, and stand in it one after the other: a text as it is, or after a backslash directly before an opening.
pub record IsOutputOf (document : List ℕ) (citations : List (List ℕ)) (bibliography output : List ℕ) : Type 0 where
  pub pieces : List Piece
  pub read : document_stage document ≡ Ok pieces
  pub stand : FollowInOrder (chars document) pieces []
  pub spelled : text (chars document) ≡ document
  pub characters : List ℕ
  pub replaced : AreReplaced characters pieces citations bibliography
  pub written : output ≡ text characters

-- The texts of a document come out as they stand in it: an output is the document with a citation instead of each marker, and a
-- bibliography.
abbrev pub TextsComeOutUnchanged : Type 0
TextsComeOutUnchanged =
    (bib : List ℕ) (task : Task) (output : List ℕ) → IsVerdict bib task (Ok output) → (citations : List (List ℕ)) × (bibliography : List ℕ) × IsOutputOf task.document citations bibliography output

-- the markers of a document, each with its cites
abbrev pub HasMarkers : List ℕ → List (List Cite) → Type 0
HasMarkers document markers = (pieces : List Piece) × (document_stage document ≡ Ok pieces) × (markers_of pieces ≡ markers)

-- Citations and bibliography depend on the markers of a document alone: with the same markers another document has an output too, and it
-- is that document with the same citations and the same bibliography.
abbrev pub CitationsDependOnMarkersAlone : Type 0
CitationsDependOnMarkersAlone =
    (bib : List ℕ) (task : Task) (other : List ℕ) (markers : List (List Cite)) (output : List ℕ)
    → HasMarkers task.document markers → HasMarkers other markers → IsVerdict bib task (Ok output)
    → (citations : List (List ℕ)) × (bibliography : List ℕ) × (other_output : List ℕ)
    × IsOutputOf task.document citations bibliography output
    × IsVerdict bib (record task { document = other }) (Ok other_output)
    × IsOutputOf other citations bibliography other_output
