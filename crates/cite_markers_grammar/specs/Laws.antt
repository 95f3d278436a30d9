-- The laws that tie the grammar to what is read.
use Rattle.std.specs.Prelude.{◌≡◌, ◌↔◌, ℕ, List, Ok, Err}
use Rattle.cite_markers.specs.Document.{Piece, document_of}
use Rattle.cite_markers_grammar.specs.Documents.{IsDocument, IsRefused}

-- A document is read as these pieces exactly where they are its pieces.
abbrev pub ReadIsWhatIsHeld : Type 0
ReadIsWhatIsHeld = (cs : List ℕ) (ps : List Piece) → (document_of cs ≡ Ok ps) ↔ IsDocument cs ps

-- No two lists of pieces are those of one document.
abbrev pub PiecesAreUnique : Type 0
PiecesAreUnique = (cs : List ℕ) (ps qs : List Piece) → IsDocument cs ps → IsDocument cs qs → ps ≡ qs

-- A document is refused at this byte exactly where its pieces end there before an opening at which no marker begins.
abbrev pub OpeningIsRefused : Type 0
OpeningIsRefused = (cs : List ℕ) (at : ℕ) → (document_of cs ≡ Err at) ↔ IsRefused cs at
