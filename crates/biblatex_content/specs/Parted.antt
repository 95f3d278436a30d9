-- Chunks that are joined: no two neighbours are text of one kind, and no text is empty.
use Rattle.std.specs.Prelude.{◌≡◌, Bool, true, false, ◌&&◌, List, [], ◌∷◌, Option, Some, None}
use Rattle.biblatex_content.specs.declared.chunk.Kind.{Kind}
use Rattle.biblatex_content.specs.declared.chunk.Kind.TheVariants.{Normal, Verbatim}
use Rattle.biblatex_content.specs.declared.chunk.Chunk.{Chunk}
use Rattle.biblatex_content.specs.declared.chunk.Chunk.TheVariants as chunks
use Rattle.biblatex_text.specs.declared.spanned.Spanned.{Spanned}
use Rattle.biblatex_content.specs.declared.joining.Joining.{Joining}
use Rattle.laws.specs.Text.{characters, is_filled}

-- a math piece may be empty
abbrev pub is_full : Chunk → Bool
is_full (chunks.Normal s) = is_filled (characters s)
is_full (chunks.Verbatim s) = is_filled (characters s)
is_full (chunks.Math s) = true

-- the kind of a chunk of text
abbrev pub kind_of : Chunk → Option Kind
kind_of (chunks.Normal s) = Some Normal
kind_of (chunks.Verbatim s) = Some Verbatim
kind_of (chunks.Math s) = None

-- whether two chunks of these kinds may be neighbours
abbrev pub is_apart : Option Kind → Option Kind → Bool
is_apart None kind = true
is_apart (Some Normal) None = true
is_apart (Some Normal) (Some Normal) = false
is_apart (Some Normal) (Some Verbatim) = true
is_apart (Some Verbatim) None = true
is_apart (Some Verbatim) (Some Normal) = true
is_apart (Some Verbatim) (Some Verbatim) = false

abbrev pub first_kind : List (Spanned Chunk) → Option Kind
first_kind [] = None
first_kind (c ∷ cs) = kind_of c.v

-- no text is empty, and no two neighbours are text of one kind
abbrev pub are_parted : List (Spanned Chunk) → Bool
are_parted [] = true
are_parted (c ∷ cs) = is_full c.v && is_apart (kind_of c.v) (first_kind cs) && are_parted cs

abbrev pub last_kind : List (Spanned Chunk) → Option Kind
last_kind [] = None
last_kind (c ∷ []) = kind_of c.v
last_kind (c ∷ d ∷ cs) = last_kind (d ∷ cs)

-- the kind is that of the last chunk, if this has one
abbrev pub IsLastOrNone : Kind → Option Kind → Type 0
IsLastOrNone kind None = Unit {0}
IsLastOrNone kind (Some last) = last ≡ kind

-- Text of the content's kind may follow its chunks.
pub record IsTurned (c : Joining) : Type 0 where
  pub parted : are_parted c.chunks.items ≡ true
  pub fits : is_apart (last_kind c.chunks.items) (Some c.kind) ≡ true

-- Text of either kind may follow.
pub record IsReady (c : Joining) : Type 0 where
  pub turned : IsTurned c
  pub fresh : characters c.run ≡ [] → last_kind c.chunks.items ≡ None
