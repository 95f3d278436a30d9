-- What names reach in a file by references, and when two files say the same of it. Where something stands is no part of what it says.
use Rattle.std.specs.Prelude.{◌≡◌, ℕ, zero, suc, List, Contains, Option, Some, None}
use Rattle.biblatex_fields.specs.Fields.{text_named}
use Rattle.biblatex_entries.specs.Entries.{Source, parents_of}
use Rattle.biblatex_meaning.specs.Listed.{Listed, entry_named}
use Rattle.biblatex_meaning.specs.Resolved.{IsResolved}

-- Two entries have one key, one type, and the same styled text under each name.
pub record SaysTheSame (e f : Source) : Type 0 where
  pub key : e.key ≡ f.key
  pub entry_type : e.entry_type ≡ f.entry_type
  pub texts : (name : List ℕ) → text_named name e.fields ≡ text_named name f.fields

-- two entries that say the same, or none in both
abbrev pub SayTheSame : Option Source → Option Source → Type 0
SayTheSame None None = Unit {0}
SayTheSame None (Some f) = ⊥
SayTheSame (Some e) None = ⊥
SayTheSame (Some e) (Some f) = SaysTheSame e f

-- a name means entries that say the same in two files, or none in both
abbrev pub MeansTheSame : Listed → Listed → List ℕ → Type 0
MeansTheSame file other name = SayTheSame (entry_named name file) (entry_named name other)

-- a name that is reached from others in so many steps: it is one of them, or a reference of an entry that a name before it means
abbrev pub IsReachedIn : Listed → List (List ℕ) → ℕ → List ℕ → Type 0
IsReachedIn file names zero name = Contains names name
IsReachedIn file names (suc n) name =
    (before : List ℕ) × (e : Source) × IsReachedIn file names n before × (entry_named before file ≡ Some e) × Contains (parents_of e.fields) name

-- a name that is reached from others
abbrev pub IsReached : Listed → List (List ℕ) → List ℕ → Type 0
IsReached file names name = (n : ℕ) × IsReachedIn file names n name

-- two files say the same of each name that is reached from these
abbrev pub SayTheSameOf : List (List ℕ) → Listed → Listed → Type 0
SayTheSameOf names file other = (name : List ℕ) → IsReached file names name → MeansTheSame file other name

-- What names reach decides what they mean once references are resolved: other entries of a file have no part in it, and neither has
-- where an entry stands.
abbrev pub ReachedNamesMeanTheSame : Type 0
ReachedNamesMeanTheSame =
    (names : List (List ℕ)) (file other resolved other_resolved : Listed)
    → IsResolved file resolved → IsResolved other other_resolved → SayTheSameOf names file other
    → (name : List ℕ) → IsReached file names name → MeansTheSame resolved other_resolved name
