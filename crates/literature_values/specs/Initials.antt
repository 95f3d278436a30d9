-- The initials of given names, on characters and grapheme clusters.
use Rattle.std.specs.Prelude.{ℕ, Bool, true, ◌&&◌, List, [], ◌∷◌, ◌++◌, length, drop, if◌then◌else◌, Option, Some, None, Result, Ok, Err}
use Rattle.std.specs.List.{flat_map}
use Rattle.std.specs.Str.{chars, drop_trailing_whitespace}
use Rattle.laws.specs.Characters.{hyphen}
use Rattle.laws.specs.Steps.{each}
use Rattle.laws.specs.Runs.{prefix_of, after}
use Rattle.laws.specs.Text.{text}
use Rattle.unicode_segmentation.specs.Grapheme.{graphemes}
use Rattle.texts.specs.Character.{passes}
use Rattle.texts.specs.Reading.{taken}
use Rattle.texts.specs.declared.character.Class.TheVariants.{Blank, Apart, Name}

-- a run of a name without white space and hyphens, and whether a hyphen stands before it
pub record Run : Type 0 where
  pub is_hyphenated : Bool
  pub name : List ℕ

-- a run that is not empty, and what follows it
abbrev pub run_after : Bool → List ℕ → List ℕ → Option Run × List ℕ
run_after is_hyphenated [] rest = (None, rest)
run_after is_hyphenated (c ∷ cs) rest = (Some (record { is_hyphenated = is_hyphenated; name = c ∷ cs }), rest)

-- what follows white space and hyphens, of which the first that is no white space decides
abbrev pub run_from : Bool × List ℕ → Option Run × List ℕ
run_from (is_hyphenated, cs) = run_after is_hyphenated (prefix_of (passes Name) (after (passes Apart) cs)) (after (passes Name) (after (passes Apart) cs))

-- the next run, or nothing at the end; no text is refused
unfoldable pub next_run_at : List ℕ → Result (Option Run × List ℕ) ⊥
next_run_at cs = Ok (run_from (taken hyphen (after (passes Blank) cs)))

-- the first of the pieces of a text, or nothing
abbrev pub first_piece : List (List ℕ) → List ℕ
first_piece [] = []
first_piece (p ∷ ps) = p

-- the first grapheme cluster
abbrev pub cluster : List ℕ → List ℕ
cluster cs = chars (first_piece (graphemes true (text cs)))

-- how initials are parted: a delimiter, cut before the white space at its end, and hyphens where that is asked
pub record Style : Type 0 where
  pub trimmed : List ℕ
  pub dropped : List ℕ
  pub with_hyphen : Bool

-- the style of a delimiter
abbrev pub style : List ℕ → Bool → Style
style delimiter with_hyphen = record { trimmed = drop_trailing_whitespace delimiter; dropped = drop (length (drop_trailing_whitespace delimiter)) delimiter; with_hyphen = with_hyphen }

-- the first cluster of a run, and the delimiter without the white space at its end
abbrev pub initial : Style → List ℕ → List ℕ
initial s name = cluster name ++ s.trimmed

-- between two initials: a hyphen, where one is asked and stands there, or the white space at the delimiter's end
abbrev pub between : Style → Bool → List ℕ
between s is_hyphenated = if s.with_hyphen && is_hyphenated then hyphen ∷ [] else s.dropped

-- an initial after another one
abbrev pub further : Style → Run → List ℕ
further s r = between s r.is_hyphenated ++ initial s r.name

-- the first initial, and the others after it
abbrev pub joined : Style → List Run → List ℕ
joined s [] = []
joined s (r ∷ rs) = initial s r.name ++ flat_map (further s) rs

-- the same of the runs that were read, which have no fault
abbrev pub joined_runs : Style → Result (List Run × List ℕ) ⊥ → List ℕ
joined_runs s (Ok p) = joined s p.0
joined_runs s (Err e) = absurd e

-- the initials of given names
unfoldable pub initials_of : Style → List ℕ → List ℕ
initials_of s cs = joined_runs s (each next_run_at cs)
