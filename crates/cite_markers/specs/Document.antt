-- Documents: texts with markers in them. A marker begins with an opening; an opening without a marker is a fault. A backslash directly
-- before an opening is left out, and the opening is text. Characters are numbers.
use Rattle.std.specs.Prelude.{◌≡◌, ◌⊎◌, ℕ, ◌-◌, Bool, true, ◌==◌, ◌||◌, ◌&&◌, List, [], ◌∷◌, ◌++◌, length, is_ok, is_some, if◌then◌else◌, Option, Some, None, Result, Ok, Err}
use Rattle.laws.specs.Characters.{open_bracket, backslash}
use Rattle.laws.specs.Steps.{each}
use Rattle.laws.specs.Text.{text}
use Rattle.texts.specs.declared.reader.Unreadable.{Unreadable}
use Rattle.texts.specs.declared.reader.Unreadable.TheVariants.{NotThere}
use Rattle.cite_markers.specs.Marker.{Cite, marker_at, opening_at}

-- a piece of a document: a text, or the cites of a marker
pub data Piece : Type 0 where
  Text : List ℕ → Piece
  Marker : List Cite → Piece

-- an opening stands here
unfoldable pub is_opening : List ℕ → Bool
is_opening cs = is_ok (opening_at cs)

-- the text from an opening on, where it stands directly after a backslash
abbrev pub escaped : List ℕ → Option (List ℕ)
escaped [] = None
escaped (c ∷ cs) = if c == backslash && is_opening cs then Some cs else None

-- a mark stands here: an opening, or a backslash directly before one
abbrev pub is_opening_or_escape : List ℕ → Bool
is_opening_or_escape cs = is_some (escaped cs) || is_opening cs

-- whether a mark may begin with a character: a bracket or a backslash
abbrev pub may_begin_opening_or_escape : ℕ → Bool
may_begin_opening_or_escape c = c == open_bracket || c == backslash

-- the characters before the first mark, and those from it on
abbrev pub plain : List ℕ → List ℕ
plain [] = []
plain (c ∷ cs) = if is_opening_or_escape (c ∷ cs) then [] else c ∷ plain cs

abbrev pub from_opening_or_escape : List ℕ → List ℕ
from_opening_or_escape [] = []
from_opening_or_escape (c ∷ cs) = if is_opening_or_escape (c ∷ cs) then c ∷ cs else from_opening_or_escape cs

-- the first character, whatever it is, and the plain ones after it; and what follows them
abbrev pub prefix_text : List ℕ → List ℕ
prefix_text [] = []
prefix_text (c ∷ cs) = c ∷ plain cs

abbrev pub after_text : List ℕ → List ℕ
after_text [] = []
after_text (c ∷ cs) = from_opening_or_escape cs

-- A step over a document gives the next piece and what follows it, or none at the end. Its fault is the text from the opening on.
abbrev pub Step : Type 0
Step = Result (Option Piece × List ℕ) (List ℕ)

-- a text
abbrev pub text_at : List ℕ → Step
text_at [] = Ok (None, [])
text_at (c ∷ cs) = Ok (Some (Text (prefix_text (c ∷ cs))), after_text (c ∷ cs))

-- a marker, which must follow an opening
abbrev pub marker_or_fault : List ℕ → Result (List Cite × List ℕ) Unreadable → Step
marker_or_fault cs (Ok marker) = Ok (Some (Marker marker.0), marker.1)
marker_or_fault cs (Err _) = Err cs

-- After a backslash an opening is text; any other opening begins a marker; what is neither is text.
abbrev pub piece_if_escaped : List ℕ → Option (List ℕ) → Step
piece_if_escaped cs (Some opening) = text_at opening
piece_if_escaped cs None = if is_opening cs then marker_or_fault cs (marker_at cs) else text_at cs

unfoldable pub piece_at : List ℕ → Step
piece_at cs = piece_if_escaped cs (escaped cs)

-- all pieces, or how many bytes stand before the first opening that no marker follows
abbrev pub or_offset : List ℕ → Result (List Piece × List ℕ) (List ℕ) → Result (List Piece) ℕ
or_offset whole (Ok read) = Ok read.0
or_offset whole (Err opening) = Err (length (text whole) - length (text opening))

unfoldable pub document_of : List ℕ → Result (List Piece) ℕ
document_of cs = or_offset cs (each piece_at cs)

-- How a piece stands in a document, before what follows it: a text as it is, or after a backslash that stands directly before an
-- opening; a marker as its cites are read.
abbrev pub Stands : List ℕ → Piece → List ℕ → Type 0
Stands cs (Text t) rest = (cs ≡ t ++ rest) ⊎ ((cs ≡ backslash ∷ (t ++ rest)) × (is_opening (t ++ rest) ≡ true))
Stands cs (Marker cites) rest = marker_at cs ≡ Ok (cites, rest)

-- pieces that stand one after the other, up to what follows the last
abbrev pub FollowInOrder : List ℕ → List Piece → List ℕ → Type 0
FollowInOrder cs [] rest = cs ≡ rest
FollowInOrder cs (p ∷ ps) rest = (more : List ℕ) × Stands cs p more × FollowInOrder more ps rest

-- an opening that no marker follows
abbrev pub LacksMarker : List ℕ → Type 0
LacksMarker cs = (is_opening cs ≡ true) × (marker_at cs ≡ Err NotThere)
