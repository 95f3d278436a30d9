-- What the code holds, as plain data.
use Rattle.std.specs.Prelude.{◌≡◌, Bool, true, false, List, ◌++◌, map}
use Rattle.biblatex_content.specs.declared.chunk.Kind.{Kind}
use Rattle.biblatex_content.specs.declared.chunk.Kind.TheVariants as kinds
use Rattle.biblatex_content.specs.Styled.{Member, letters}
use Rattle.laws.specs.Text.{characters}
use Rattle.literature_values.specs.TextViews.{Chunk, chunk_view}
use Rattle.interop_values.specs.Pieces.{pieces_of}
use Rattle.interop_values.specs.declared.pieces.Pieces.{Pieces}

-- the kind of a text that may be changed, or stays as it is
abbrev pub kind_of : Bool → Kind
kind_of false = kinds.Normal
kind_of true = kinds.Verbatim

-- the pieces that are finished
abbrev pub chunks_in : Pieces → List Chunk
chunks_in p = map chunk_view p.done.items

-- the text that has been begun
abbrev pub run_of : Pieces → List Member
run_of p = letters (kind_of p.is_verbatim) (characters p.run)

-- the pieces, where these members follow
abbrev pub with_pieces : Pieces → List Member → List Chunk
with_pieces p rest = chunks_in p ++ pieces_of (run_of p ++ rest)

-- These members were put last.
abbrev pub Grows : Pieces → Pieces → List Member → Type 0
Grows old new ms = (rest : List Member) → with_pieces new rest ≡ with_pieces old (ms ++ rest)
