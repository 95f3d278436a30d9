-- Styled texts in pieces of one kind.
use Rattle.std.specs.Prelude.{ℕ, List, [], ◌∷◌, Bool, true, false}
use Rattle.biblatex_content.specs.declared.chunk.Kind.{Kind}
use Rattle.biblatex_content.specs.declared.chunk.Kind.TheVariants as kinds
use Rattle.biblatex_content.specs.Styled.{Member, Letter, Math}
use Rattle.literature_values.specs.declared.text.ChunkKind.{ChunkKind}
use Rattle.literature_values.specs.declared.text.ChunkKind.TheVariants as pieces
use Rattle.literature_values.specs.TextViews.{Chunk}

-- the kind of a piece of text
abbrev pub piece_kind : Kind → ChunkKind
piece_kind kinds.Normal = pieces.Normal
piece_kind kinds.Verbatim = pieces.Verbatim

-- whether a piece is of a kind of text
abbrev pub is_of : Kind → ChunkKind → Bool
is_of kinds.Normal pieces.Normal = true
is_of kinds.Verbatim pieces.Verbatim = true
is_of _ _ = false

-- a character in the piece after it, or in a piece of its own before that
abbrev pub joined : Bool → Kind → ℕ → Chunk → List Chunk → List Chunk
joined true kind c p ps = record { value = c ∷ p.value; kind = p.kind } ∷ ps
joined false kind c p ps = record { value = c ∷ []; kind = piece_kind kind } ∷ p ∷ ps

-- a character before pieces is in the first of them, where that is of its kind
abbrev pub letter_before : Kind → ℕ → List Chunk → List Chunk
letter_before kind c [] = record { value = c ∷ []; kind = piece_kind kind } ∷ []
letter_before kind c (p ∷ ps) = joined (is_of kind p.kind) kind c p ps

-- a styled text in pieces: neighbours of one kind are in one piece, and each formula is a piece of its own
abbrev pub pieces_of : List Member → List Chunk
pieces_of [] = []
pieces_of (Letter kind c ∷ ms) = letter_before kind c (pieces_of ms)
pieces_of (Math cs ∷ ms) = record { value = cs; kind = pieces.Math } ∷ pieces_of ms
