-- Given names cut at full stops too, on characters and grapheme clusters: what is printed of each piece.
use Rattle.std.specs.Prelude.{ℕ, Bool, true, false, not, ◌==◌, ◌&&◌, ◌||◌, List, [], ◌∷◌, ◌++◌, map, filter, zip, if◌then◌else◌, Option, Some, None, Result, Ok, Err}
use Rattle.std.specs.Char.Unicode.Uppercase.{is_uppercase}
use Rattle.std.specs.List.{flat_map}
use Rattle.laws.specs.Characters.{full_stop, hyphen, space}
use Rattle.laws.specs.Runs.{prefix_of, after}
use Rattle.laws.specs.Steps.{each}
use Rattle.laws.specs.Text.{text}
use Rattle.unicode_segmentation.specs.Grapheme.{graphemes}
use Rattle.texts.specs.Character.{passes}
use Rattle.texts.specs.Reading.{taken}
use Rattle.texts.specs.declared.character.Class.TheVariants.{Blank, Apart, Name}
use Rattle.literature_values.specs.Initials.{Style, cluster, between, initials_of}
use Rattle.literature_values.specs.declared.given_name.PieceClass.{PieceClass}
use Rattle.literature_values.specs.declared.given_name.PieceClass.TheVariants as classes
use Rattle.literature_values.specs.declared.given_name.InitialsRule.{InitialsRule}
use Rattle.literature_values.specs.declared.given_name.InitialsRule.TheVariants as rules

-- whether a character stands between pieces, as white space, hyphens and full stops do, or in one
unfoldable pub is_of : PieceClass → ℕ → Bool
is_of classes.Between c = passes Apart c || c == full_stop
is_of classes.Within c = passes Name c && not (c == full_stop)

-- a piece of a given name, whether a hyphen stands before it, and whether a full stop stands behind it
pub record Piece : Type 0 where
  pub is_hyphenated : Bool
  pub name : List ℕ
  pub is_stopped : Bool

-- a piece that is not empty, and what follows it; before that, whether it is a full stop
abbrev pub piece_after : Bool → List ℕ → Bool × List ℕ → Option Piece × List ℕ
piece_after is_hyphenated [] (is_stopped, rest) = (None, rest)
piece_after is_hyphenated (c ∷ cs) (is_stopped, rest) =
    (Some (record { is_hyphenated = is_hyphenated; name = c ∷ cs; is_stopped = is_stopped }), rest)

-- the piece with which a text begins, and what follows it
abbrev pub piece_at : Bool → List ℕ → Option Piece × List ℕ
piece_at is_hyphenated cs =
    piece_after is_hyphenated (prefix_of (is_of classes.Within) cs)
    (taken full_stop (after (is_of classes.Within) cs))

-- what stands between pieces, of which the first that is no white space decides about the hyphen, and the piece after it
abbrev pub piece_from : Bool × List ℕ → Option Piece × List ℕ
piece_from (is_hyphenated, cs) = piece_at is_hyphenated (after (is_of classes.Between) cs)

-- the next piece, or nothing at the end; no text is refused
unfoldable pub next_piece_at : List ℕ → Result (Option Piece × List ℕ) ⊥
next_piece_at cs = Ok (piece_from (taken hyphen (after (passes Blank) cs)))

-- the pieces that were read, which have no fault
abbrev pub pieces_read : Result (List Piece × List ℕ) ⊥ → List Piece
pieces_read (Ok p) = p.0
pieces_read (Err e) = absurd e

-- all pieces of a given name
abbrev pub pieces : List ℕ → List Piece
pieces cs = pieces_read (each next_piece_at cs)

-- whether there is no piece of a text, and whether there is no other after the first
abbrev pub are_none : List (List ℕ) → Bool
are_none [] = true
are_none (p ∷ ps) = false

abbrev pub is_single : List (List ℕ) → Bool
is_single [] = true
is_single (p ∷ ps) = are_none ps

-- a piece that is an initial as it stands: a full stop stands behind it, or it is one cluster
abbrev pub is_initial : Piece → Bool
is_initial p = p.is_stopped || is_single (graphemes true (text p.name))

-- whether a text begins with a capital
abbrev pub is_capitalized : List ℕ → Bool
is_capitalized [] = false
is_capitalized (c ∷ cs) = is_uppercase c

-- what is printed of a piece: a text, whether a hyphen stands before it, and whether it is an initial
pub record Shown : Type 0 where
  pub is_hyphenated : Bool
  pub text : List ℕ
  pub is_initial : Bool

-- an initial, and a piece that stays whole
abbrev pub as_initial : Piece → List ℕ → Shown
as_initial p cs = record { is_hyphenated = p.is_hyphenated; text = cs; is_initial = true }

abbrev pub whole : Piece → Shown
whole p = record { is_hyphenated = p.is_hyphenated; text = p.name; is_initial = false }

-- What is printed of a piece, where pieces are cut or not: an initial as it stands; where they are cut, of one that begins with a capital its
-- first cluster; and others whole.
abbrev pub shown : Bool → Piece → Shown
shown cuts p =
    if is_initial p then as_initial p p.name
    else (if cuts && is_capitalized p.name then as_initial p (cluster p.name) else whole p)

-- what stays whole after a hyphen is left out where pieces are cut
abbrev pub stays : Bool → Shown → Bool
stays cuts x = x.is_initial || not (cuts && x.is_hyphenated)

-- all that is printed of the pieces of a given name
abbrev pub all_shown : Bool → List ℕ → List Shown
all_shown cuts cs = filter (stays cuts) (map (shown cuts) (pieces cs))

-- an initial with the delimiter, but for the white space at its end; else the text alone
abbrev pub shown_text : Style → Shown → List ℕ
shown_text s x = if x.is_initial then x.text ++ s.trimmed else x.text

-- a hyphen, where it stands there, or a space
abbrev pub beside_whole : Bool → List ℕ
beside_whole is_hyphenated = if is_hyphenated then hyphen ∷ [] else space ∷ []

-- between two initials what stands there between initials; else a hyphen or a space
abbrev pub between_shown : Style → Shown → Shown → List ℕ
between_shown s x y =
    if x.is_initial && y.is_initial then between s y.is_hyphenated else beside_whole y.is_hyphenated

-- one after another
abbrev pub further_shown : Style → Shown × Shown → List ℕ
further_shown s (x, y) = between_shown s x y ++ shown_text s y

-- those after a first one, each after the one before it
abbrev pub others_shown : Style → Shown → List Shown → List ℕ
others_shown s x xs = flat_map (further_shown s) (zip (x ∷ xs) xs)

-- the first, and the others after it
abbrev pub joined_shown : Style → List Shown → List ℕ
joined_shown s [] = []
joined_shown s (x ∷ xs) = shown_text s x ++ others_shown s x xs

-- given names by pieces, cut to initials or not
unfoldable pub by_piece : Bool → Style → List ℕ → List ℕ
by_piece cuts s cs = joined_shown s (all_shown cuts cs)

-- given names by a rule
abbrev pub given_by : InitialsRule → Style → List ℕ → List ℕ
given_by rules.Runs s cs = initials_of s cs
given_by rules.Pieces s cs = by_piece true s cs
given_by rules.Kept s cs = by_piece false s cs
