-- Documents as a grammar by cases. Each relation takes a text, what is spelled from its first character on, and the text that follows.
-- Characters are numbers.
use Rattle.std.specs.Prelude.{◌≡◌, ◌⊎◌, ℕ, List, [], ◌∷◌, ◌++◌, length}
use Rattle.laws.specs.Characters.{backslash}
use Rattle.laws.specs.Text.{text as text_of}
use Rattle.cite_markers.specs.Marker.{Cite}
use Rattle.cite_markers.specs.Document.{Piece, Text, Marker}
use Rattle.cite_markers_grammar.specs.Markers.{Spells, IsMarker, IsOpening}

-- A backslash stands directly before an opening.
abbrev pub IsEscape : List ℕ → List ℕ → Type 0
IsEscape cs opening = (cs ≡ backslash ∷ opening) × IsOpening opening

-- An opening stands there, or a backslash directly before one.
abbrev pub IsMark : List ℕ → Type 0
IsMark cs = IsOpening cs ⊎ ((opening : List ℕ) × IsEscape cs opening)

-- Characters that are no mark stand one after the other, up to a mark or the end of the document.
abbrev pub ArePlain : Spells (List ℕ)
ArePlain cs [] rest = (cs ≡ rest) × ((rest ≡ []) ⊎ IsMark rest)
ArePlain cs (c ∷ t) rest = (a : List ℕ) × (cs ≡ c ∷ a) × (IsMark cs → ⊥) × ArePlain a t rest

-- The first character of a text is no mark, or it is that of an opening after a backslash, which is left out.
abbrev pub IsFirst : Spells ℕ
IsFirst cs c rest = ((cs ≡ c ∷ rest) × (IsMark cs → ⊥)) ⊎ IsEscape cs (c ∷ rest)

-- A text is its first character and all that are no mark after it. A backslash before an opening ends the text before it, so that two texts
-- may touch.
abbrev pub IsText : Spells (List ℕ)
IsText cs [] rest = ⊥
IsText cs (c ∷ t) rest = (a : List ℕ) × IsFirst cs c a × ArePlain a t rest

-- A piece is a text or a marker.
abbrev pub IsPiece : Spells Piece
IsPiece cs (Text t) rest = IsText cs t rest
IsPiece cs (Marker cites) rest = IsMarker cs cites rest

-- Pieces stand one after the other up to what follows.
abbrev pub ArePieces : Spells (List Piece)
ArePieces cs [] rest = cs ≡ rest
ArePieces cs (p ∷ ps) rest = (a : List ℕ) × IsPiece cs p a × ArePieces a ps rest

-- The whole document is these pieces.
abbrev pub IsDocument : List ℕ → List Piece → Type 0
IsDocument cs ps = ArePieces cs ps []

-- No marker begins there.
abbrev pub LacksMarker : List ℕ → Type 0
LacksMarker cs = (cites : List Cite) (rest : List ℕ) → IsMarker cs cites rest → ⊥

-- After pieces an opening stands at which no marker begins: the document is refused at the byte where the opening begins.
abbrev pub IsRefused : List ℕ → ℕ → Type 0
IsRefused cs at = (front : List ℕ) × (opening : List ℕ) × (ps : List Piece)
    × (cs ≡ front ++ opening) × ArePieces cs ps opening × IsOpening opening × LacksMarker opening × (at ≡ length (text_of front))
