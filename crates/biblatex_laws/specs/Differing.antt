-- Files of which one has one entry more, which names do not reach.
use Rattle.std.specs.Prelude.{◌≡◌, ℕ, List, ◌∷◌, ◌++◌, map, slice_get, Some}
use Rattle.std.specs.List.{AllByRecursion}
use Rattle.std.specs.Option.{option_map}
use Rattle.laws.specs.Text.{text}
use Rattle.biblatex_text.specs.Raw.{At, Entry, Field, Piece, Raw}
use Rattle.biblatex_meaning.specs.Listed.{Listed, entry_named}
use Rattle.biblatex_laws.specs.Files.{IsFileOf}
use Rattle.biblatex_laws.specs.Opened.{DefineAlike, bare}
use Rattle.biblatex_laws.specs.Reached.{IsReached, SayTheSameOf}

-- a raw entry without where it stands: its kind, its key, and the pieces of each of its fields
pub record BareEntry : Type 0 where
  pub kind : List ℕ
  pub key : List ℕ
  pub fields : List (List ℕ × List Piece)

abbrev pub bare_field : Field → List ℕ × List Piece
bare_field f = (f.name.v, bare f.value.v)

abbrev pub bare_entry : At Entry → BareEntry
bare_entry e = record { kind = e.v.kind.v; key = e.v.key.v; fields = map bare_field e.v.fields }

-- a text has the raw entries of the other, in their order, and one more
pub record HasOneMore (less more : Raw) (extra : BareEntry) : Type 0 where
  pub before : List BareEntry
  pub after : List BareEntry
  pub shorter : map bare_entry less.entries ≡ before ++ after
  pub longer : map bare_entry more.entries ≡ before ++ extra ∷ after

-- a name means entries of one key in two files, or none in both
abbrev pub MeansOneKey : Listed → Listed → List ℕ → Type 0
MeansOneKey file other name = option_map (λ e. e.key) (entry_named name file) ≡ option_map (λ e. e.key) (entry_named name other)

-- what no field of a raw entry opens changes in the definitions of abbreviations
abbrev pub OpensTheSame : List Field → List Field → At Entry → Type 0
OpensTheSame ds es e = AllByRecursion (λ f. DefineAlike (bare f.value.v) ds es) e.v.fields

-- No abbreviation changes that a field opens of the raw entry of a name that is reached in the first file.
abbrev pub NoAbbreviationChanges : List (List ℕ) → Listed → Raw → Raw → Type 0
NoAbbreviationChanges names file raw other =
    (name : List ℕ) (i : ℕ) (e : At Entry) → IsReached file names name → slice_get raw.entries i ≡ Some e
    → option_map (λ d. d.key) (entry_named name file) ≡ Some (text e.v.key.v) → OpensTheSame raw.abbreviations other.abbreviations e

-- Two files say the same of all that names reach, of which the second has one entry more, where each name that is reached means one key
-- in both, so that the one more is not reached, and no abbreviation changes that a field of a reached entry opens.
abbrev pub OneMoreEntryChangesNothing : Type 0
OneMoreEntryChangesNothing =
    (names : List (List ℕ)) (cs ds : List ℕ) (file other resolved other_resolved : Listed) (extra : BareEntry)
    → (first : IsFileOf cs file resolved) (second : IsFileOf ds other other_resolved) → HasOneMore first.raw second.raw extra
    → ((name : List ℕ) → IsReached file names name → MeansOneKey file other name) → NoAbbreviationChanges names file first.raw second.raw
    → SayTheSameOf names file other
