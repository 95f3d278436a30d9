-- Entries that are put between two texts. Texts are lists of characters, and characters are numbers.
use Rattle.std.specs.Prelude.{◌≡◌, ℕ, List, [], ◌++◌, slice_get, Ok, Some}
use Rattle.std.specs.Option.{option_map}
use Rattle.laws.specs.Text.{text}
use Rattle.biblatex_text.specs.Raw.{At, Entry, Raw}
use Rattle.biblatex_text.specs.Items.{raw_of}
use Rattle.biblatex_meaning.specs.Listed.{Listed, entry_named}
use Rattle.biblatex_laws.specs.Files.{IsFileOf}
use Rattle.biblatex_laws.specs.Reached.{IsReached, SayTheSameOf}
use Rattle.biblatex_laws.specs.Joined.{BeginsItem, HasWholeLines}

-- A text of entries can be put between two texts: it and the text before it are each read by itself and have whole lines, it and the text
-- after it begin with an item, and it has no abbreviation.
pub record ArePutBetween (front more back : List ℕ) : Type 0 where
  pub front_raw : Raw
  pub more_raw : Raw
  pub front_read : raw_of front ≡ Ok front_raw
  pub more_read : raw_of more ≡ Ok more_raw
  pub front_lines : HasWholeLines front
  pub more_lines : HasWholeLines more
  pub more_begins : BeginsItem more
  pub back_begins : BeginsItem back
  pub plain : more_raw.abbreviations ≡ []

-- no name that is reached from others means an entry with the key of one of these
abbrev pub AreUnreached : Listed → List (List ℕ) → List (At Entry) → Type 0
AreUnreached file names es =
    (name : List ℕ) (i : ℕ) (e : At Entry) → IsReached file names name → slice_get es i ≡ Some e
    → option_map (λ d. d.key) (entry_named name file) ≡ Some (text e.v.key.v) → ⊥

-- After a text of entries was put between two texts the file says the same of all that names reach, if these mean none of the entries.
abbrev pub UnreachedEntriesBetweenChangeNothing : Type 0
UnreachedEntriesBetweenChangeNothing =
    (names : List (List ℕ)) (front more back : List ℕ) (file other resolved other_resolved : Listed) (put : ArePutBetween front more back)
    → IsFileOf (front ++ back) file resolved → IsFileOf (front ++ (more ++ back)) other other_resolved
    → AreUnreached other names put.more_raw.entries → SayTheSameOf names file other
