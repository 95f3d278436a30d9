-- Files that say the same, as a reader sees it: whatever the order of fields and whichever of two names a field or a type has.
use Rattle.std.specs.Prelude.{◌≡◌, List, [], ◌∷◌}
use Rattle.biblatex_entries.specs.Entries.{Source}
use Rattle.biblatex_entries.specs.TypeNames.{written_type}
use Rattle.interop_values.specs.Written.{AreWrittenAlike}

-- Two entries have one key, are written as one type, and have the same fields with something in them, under the names that those are
-- written under; no two fields of one entry are written under one name.
pub record SaysTheSameAs (e f : Source) : Type 0 where
  pub key : e.key ≡ f.key
  pub entry_type : written_type e.entry_type ≡ written_type f.entry_type
  pub fields : AreWrittenAlike e.fields f.fields

-- Each entry of a file says the same as the one at its index in the other file.
abbrev pub SayTheSame : List Source → List Source → Type 0
SayTheSame [] [] = Unit {0}
SayTheSame [] (f ∷ fs) = ⊥
SayTheSame (e ∷ es) [] = ⊥
SayTheSame (e ∷ es) (f ∷ fs) = SaysTheSameAs e f × SayTheSame es fs
