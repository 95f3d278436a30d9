-- Where chunks stand: each member of a styled text has the span of the piece that it came from, and a chunk the span from
-- its first member's to its last one's.
use Rattle.std.specs.Prelude.{◌≡◌, ℕ, max, Bool, true, false, not, List, [], ◌∷◌, ◌++◌, map, flat_map, if◌then◌else◌, Option, Some, None, Result, Ok}
use Rattle.laws.specs.Characters.{space}
use Rattle.laws.specs.Results.{◌>>=◌}
use Rattle.biblatex_text.specs.Raw.{At}
use Rattle.biblatex_text.specs.declared.spanned.Spanned.{Spanned}
use Rattle.biblatex_content.specs.declared.chunk.Kind.{Kind}
use Rattle.biblatex_content.specs.declared.chunk.Chunk.{Chunk}
use Rattle.biblatex_content.specs.declared.contents.Contents.{Contents}
use Rattle.biblatex_content.specs.declared.joining.Joining.{Joining}
use Rattle.biblatex_tex.specs.declared.error.ContentError.{ContentError}
use Rattle.biblatex_content.specs.declared.tidy.Gap.{Gap}
use Rattle.biblatex_content.specs.declared.tidy.Gap.TheVariants.{Start, Nothing, Space}
use Rattle.biblatex_content.specs.declared.tidy.Tidying.{Tidying}
use Rattle.biblatex_content.specs.Styled.{Member, Letter, Math}
use Rattle.biblatex_content.specs.Parted.{is_apart, are_parted}
use Rattle.biblatex_content.specs.Tidy.{spaced, is_space, tidied}
use Rattle.biblatex_content.specs.Views.{members, styled}
use Rattle.laws.specs.Text.{characters, is_filled}

-- members with one span
abbrev pub all_at : ℕ → ℕ → List Member → List (At Member)
all_at start end ms = map (λ m. record { v = m; start = start; end = end }) ms

abbrev pub without_spans : List (At Member) → List Member
without_spans ms = map (λ m. m.v) ms

-- the members of a chunk, with its span
abbrev pub spanned_in : Spanned Chunk → List (At Member)
spanned_in c = all_at c.span.start c.span.end (members c.v)

-- the members of chunks, each with the span of its chunk
abbrev pub spanned : List (Spanned Chunk) → List (At Member)
spanned cs = flat_map spanned_in cs

-- a chunk at a span
abbrev pub placed : ℕ → ℕ → Spanned Chunk → Spanned Chunk
placed start end c = record { v = c.v; span = record { start = start; end = end } }

-- the members that have been read, each with the span of its piece
abbrev pub spanned_so_far : Contents → List (At Member)
spanned_so_far c = spanned c.chunks.items

-- what reading a piece with this span gives, after these members
abbrev pub after_at : ℕ → ℕ → List (At Member) → Result (List Member) ContentError → Result (List (At Member)) ContentError
after_at start end done read = read >>= λ ms. Ok (done ++ all_at start end ms)

-- Tidying: what goes leaves no trace, and what stays keeps its span.

-- a blank becomes a space with its span
abbrev pub spaced_at : At Member → At Member
spaced_at m = record { v = spaced m.v; start = m.start; end = m.end }

-- a space goes where a space, or the start, stands before it
abbrev pub squeezed_at : Bool → List (At Member) → List (At Member)
squeezed_at after_space [] = []
squeezed_at after_space (m ∷ ms) = if is_space m.v then (if after_space then squeezed_at true ms else m ∷ squeezed_at true ms) else m ∷ squeezed_at false ms

-- a space at the end goes
abbrev pub without_last_space_at : List (At Member) → List (At Member)
without_last_space_at [] = []
without_last_space_at (m ∷ []) = if is_space m.v then [] else m ∷ []
without_last_space_at (m ∷ n ∷ ms) = m ∷ without_last_space_at (n ∷ ms)

-- members, tidied
abbrev pub tidied_at : List (At Member) → List (At Member)
tidied_at ms = without_last_space_at (squeezed_at true (map spaced_at ms))

-- Joining: neighbours of one kind are of one chunk.

-- the kind of a character
abbrev pub kind_in : Member → Option Kind
kind_in (Letter kind c) = Some kind
kind_in (Math text) = None

-- whether a member is of one chunk with the first of those after it: both are characters of one kind
abbrev pub goes_on : Member → List (At Member) → Bool
goes_on m [] = false
goes_on m (n ∷ ms) = not (is_apart (kind_in m) (kind_in n.v))

-- a member before the chunks of those after it: it stands alone, or the first chunk begins where its piece begins, and
-- ends no earlier than its piece
abbrev pub before : Bool → At Member → List (ℕ × ℕ) → List (ℕ × ℕ)
before true m (p ∷ ps) = (m.start, max m.end p.1) ∷ ps
before true m [] = (m.start, m.end) ∷ []
before false m ps = (m.start, m.end) ∷ ps

-- The spans of the chunks of these members, each from where the first piece begins that gave the chunk a member to where
-- the one ends that ends last.
abbrev pub member_spans : List (At Member) → List (ℕ × ℕ)
member_spans [] = []
member_spans (m ∷ ms) = before (goes_on m.v ms) m (member_spans ms)

-- the span of a chunk
abbrev pub chunk_span : Spanned Chunk → ℕ × ℕ
chunk_span c = (c.span.start, c.span.end)

abbrev pub chunk_spans : List (Spanned Chunk) → List (ℕ × ℕ)
chunk_spans cs = map chunk_span cs

-- Chunks that stay as they are when they are tidied and joined.
pub record AreDone (cs : List (Spanned Chunk)) : Type 0 where
  pub styled : styled cs ≡ tidied (styled cs)
  pub spans : chunk_spans cs ≡ member_spans (tidied_at (spanned cs))
  pub parted : are_parted cs ≡ true

-- While text is joined and tidied.

-- text that was begun, as one character where it stands
abbrev pub run_in : Joining → At Member
run_in j = record { v = Letter j.kind 0; start = j.span.start; end = j.span.end }

-- the spans of the chunks of what was begun, and of these members after it
abbrev pub begun_with : Bool → At Member → List (At Member) → List (ℕ × ℕ)
begun_with true run ms = member_spans (run ∷ ms)
begun_with false run ms = member_spans ms

-- the spans of the chunks of what was joined, and of these members after it
abbrev pub spans_with : Joining → List (At Member) → List (ℕ × ℕ)
spans_with j ms = chunk_spans j.chunks.items ++ begun_with (is_filled (characters j.run)) (run_in j) ms

-- the space that a gap becomes, where it stands
abbrev pub owed_at : ℕ → ℕ → Gap → List (At Member)
owed_at start end Start = []
owed_at start end Nothing = []
owed_at start end (Space kind) = record { v = Letter kind space; start = start; end = end } ∷ []

-- what is still to be written of a text in which the gap stands before these members
abbrev pub tidied_after_at : ℕ → ℕ → Gap → List (At Member) → List (At Member)
tidied_after_at start end Start ms = tidied_at ms
tidied_after_at start end Nothing ms = without_last_space_at (squeezed_at false (map spaced_at ms))
tidied_after_at start end (Space kind) ms = without_last_space_at (record { v = Letter kind space; start = start; end = end } ∷ squeezed_at true (map spaced_at ms))

-- the spans of the chunks of what was tidied, and of these members after it once they are tidied
abbrev pub spans_to_come : Tidying → List (At Member) → List (ℕ × ℕ)
spans_to_come t ms = spans_with t.contents (tidied_after_at t.space.start t.space.end t.gap ms)
