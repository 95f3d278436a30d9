-- The entries of a file and the works that they are, and what the names of a document mean.
use Rattle.std.specs.Prelude.{◌≡◌, ℕ, Bool, List, Option, None, if◌then◌else◌, option_and_then}
use Rattle.std.specs.Str.{bytes_eq}
use Rattle.biblatex.specs.Listed.{Listed, entry_named}
use Rattle.biblatex.specs.Entries.{Source}
use Rattle.biblatex.specs.TypeNames.{written_type}
use Rattle.literature_entries.specs.EntriesData.{EntryData}
use Rattle.literature.specs.Keys.{with_key}
use Rattle.interop.specs.Library.{key_of, is_xdata}

-- a file, and the library that it comes to
pub record Works : Type 0 where
  pub file : Listed
  pub library : List EntryData

-- the work that an entry of the file is, by its key; an entry that only lends its fields is none
abbrev pub work_of : List EntryData → Source → Option EntryData
work_of library e = if is_xdata (written_type e.entry_type) then None else with_key key_of e.key library

-- the work that a name means
abbrev pub meaning : List ℕ → Works → Option EntryData
meaning name works = option_and_then (work_of works.library) (entry_named name works.file)

-- a name means the same work in both, or none in either
abbrev pub MeansOneWork : Works → Works → List ℕ → Type 0
MeansOneWork v w name = meaning name v ≡ meaning name w

-- keys distinguish the works of a library
abbrev pub is_same : EntryData → EntryData → Bool
is_same v w = bytes_eq (key_of v) (key_of w)
