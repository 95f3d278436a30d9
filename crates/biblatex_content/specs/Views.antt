-- What the code holds, as plain lists.
use Rattle.std.specs.Prelude.{ℕ, ◌-◌, max, length, slice_get, List, [], ◌∷◌, ◌++◌, flat_map, map, Result, Ok}
use Rattle.std.specs.Option.{option_map_or}
use Rattle.std.specs.declared.ops.Range.{Range}
use Rattle.laws.specs.Text.{characters}
use Rattle.biblatex_content.specs.declared.chunk.Kind.TheVariants.{Normal, Verbatim}
use Rattle.biblatex_content.specs.declared.chunk.Chunk.{Chunk}
use Rattle.biblatex_content.specs.declared.chunk.Chunk.TheVariants as chunks
use Rattle.biblatex_text.specs.declared.spanned.Spanned.{Spanned}
use Rattle.biblatex_content.specs.declared.contents.Contents.{Contents}
use Rattle.biblatex_content.specs.declared.joining.Joining.{Joining}
use Rattle.biblatex_tex.specs.declared.error.ContentError.{ContentError}
use Rattle.laws.specs.Results.{◌>>=◌}
use Rattle.biblatex_content.specs.Styled.{Member, Math, letters}

-- the text of a chunk
abbrev pub chunk_text : Chunk → List ℕ
chunk_text (chunks.Normal s) = characters s
chunk_text (chunks.Verbatim s) = characters s
chunk_text (chunks.Math s) = characters s

-- the texts of chunks, one after the other
abbrev pub plain_text : List (Spanned Chunk) → List ℕ
plain_text cs = flat_map (λ c. chunk_text c.v) cs

-- where the first chunk begins, and where the last one ends, but not before the first one ends
abbrev pub span_start : List (Spanned Chunk) → ℕ
span_start cs = option_map_or (λ c. c.span.start) (slice_get cs 0) 0

abbrev pub span_end : List (Spanned Chunk) → ℕ
span_end cs = max (option_map_or (λ c. c.span.end) (slice_get cs 0) 0) (option_map_or (λ c. c.span.end) (slice_get cs (length cs - 1)) 0)

-- the members that a chunk spells
abbrev pub members : Chunk → List Member
members (chunks.Normal s) = letters Normal (characters s)
members (chunks.Verbatim s) = letters Verbatim (characters s)
members (chunks.Math s) = Math (characters s) ∷ []

-- the styled text that chunks spell
abbrev pub styled : List (Spanned Chunk) → List Member
styled cs = flat_map (λ c. members c.v) cs

-- the styled text that has been read
abbrev pub so_far : Contents → List Member
so_far c = styled c.chunks.items

-- the styled text that has been joined
abbrev pub joined : Joining → List Member
joined j = styled j.chunks.items ++ letters j.kind (characters j.run)

-- what reading gives, after these members
abbrev pub following : List Member → Result (List Member) ContentError → Result (List Member) ContentError
following done read = read >>= λ ms. Ok (done ++ ms)

-- where chunks stand
abbrev pub spans : List (Spanned Chunk) → List (Range ℕ)
spans cs = map (λ c. c.span) cs
