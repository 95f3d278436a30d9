-- Works of a library.
use Rattle.std.specs.Prelude.{◌≡◌, All, List, Some}
use Rattle.literature.specs.Keys.{with_key}
use Rattle.literature_entries.specs.EntriesData.{EntryData}
use Rattle.interop.specs.Library.{key_of}

-- a library has a work under its key
abbrev pub IsListed : List EntryData → EntryData → Type 0
IsListed library w = with_key key_of (key_of w) library ≡ Some w

-- it has each of them
abbrev pub AreListed : List EntryData → List EntryData → Type 0
AreListed library works = All (IsListed library) works
