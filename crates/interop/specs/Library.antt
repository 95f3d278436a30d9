-- The library of a file.
use Rattle.std.specs.Prelude.{◌≡◌, ℕ, Bool, not, List, [], ◌∷◌, ◌++◌, map, filter, Result, Ok, Err, codes}
use Rattle.std.specs.List.{flat_map}
use Rattle.biblatex_entries.specs.Entries.{Source}
use Rattle.biblatex_entries.specs.TypeNames.{TypeName, is_one_of, written_type}
use Rattle.literature.specs.Keys.{put}
use Rattle.interop_values.specs.Values.{values}
use Rattle.literature_entries.specs.EntriesData.{EntryData, Holding}
use Rattle.interop.specs.Bridge.{Fault, bridged, faults_of, work_of, unless_faulty}

-- the key of a work
abbrev pub key_of : EntryData → List ℕ
key_of (Holding key fs parents) = key

-- whether entries of a type only lend their fields
abbrev pub is_xdata : TypeName → Bool
is_xdata t = is_one_of (codes "xdata" ∷ []) t

-- the entries that are works: those that only lend fields to others are not
abbrev pub works_in : List Source → List Source
works_in es = filter (λ e. not (is_xdata (written_type e.entry_type))) es

-- all faults of works, in the order of the file
abbrev pub all_faults : List Source → List Fault
all_faults es = flat_map (λ e. faults_of e.key (values e.fields)) (works_in es)

-- the works, in the order of the file
abbrev pub all_works : List Source → List EntryData
all_works es = map (λ e. work_of e.key (written_type e.entry_type) (values e.fields)) (works_in es)

-- works after those that are there; of works with equal keys the last stands where the first did
abbrev pub put_after : List EntryData → List EntryData → List EntryData
put_after ws [] = ws
put_after ws (w ∷ more) = put_after (put key_of ws w) more

-- the library of a file, or all faults of its works
abbrev pub library_of : List Source → Result (List EntryData) (List Fault)
library_of es = unless_faulty (all_faults es) (put_after [] (all_works es))

-- A work is put into the library, or faults go after the others.
abbrev pub PutsBy : Result EntryData (List Fault) → List EntryData → List Fault → List EntryData → List Fault → Type 0
PutsBy (Ok w) ws fs ws' fs' = (ws' ≡ put key_of ws w) × (fs' ≡ fs)
PutsBy (Err found) ws fs ws' fs' = (ws' ≡ ws) × (fs' ≡ fs ++ found)

-- The work that an entry is is put into the library, or its faults go after the others.
abbrev pub IsPut : List EntryData → List Fault → Source → List EntryData → List Fault → Type 0
IsPut ws fs e ws' fs' = PutsBy (bridged e) ws fs ws' fs'

-- Two entries have one key, are written as one type, and have the same contents under written names.
pub record IsAlike (e f : Source) : Type 0 where
  pub key : e.key ≡ f.key
  pub entry_type : written_type e.entry_type ≡ written_type f.entry_type
  pub values : (name : List ℕ) → values e.fields name ≡ values f.fields name

-- Each entry is like the one at its index in the other list.
abbrev pub AreAlike : List Source → List Source → Type 0
AreAlike [] [] = Unit {0}
AreAlike [] (f ∷ fs) = ⊥
AreAlike (e ∷ es) [] = ⊥
AreAlike (e ∷ es) (f ∷ fs) = IsAlike e f × AreAlike es fs
