-- One library on two roads: from the entries of a file, and from what the written text of these entries without `crossref` means.
use Rattle.std.specs.Prelude.{◌≡◌, List}
use Rattle.std.specs.List.{AllByRecursion}
use Rattle.biblatex_entries.specs.Entries.{Source}
use Rattle.biblatex_writing.specs.FieldNames.{HaveDistinctWrittenNames}
use Rattle.biblatex_writing.specs.Flat.{flat, flat_entry}
use Rattle.biblatex_reading_back.specs.ReadingBack.{AreReadBack}
use Rattle.interop.specs.Bridge.{bridged}
use Rattle.interop.specs.Library.{library_of}

-- An entry is the same work without `crossref`, or has the same faults.
abbrev pub FlatEntriesAreOneWork : Type 0
FlatEntriesAreOneWork = (e : Source) → bridged (flat_entry e) ≡ bridged e

-- Entries come to one library with and without `crossref`, or to the same faults.
abbrev pub FlatEntriesHaveOneLibrary : Type 0
FlatEntriesHaveOneLibrary = (es : List Source) → library_of (flat es) ≡ library_of es

-- no entry has two fields that are written under one name
abbrev pub AreWrittenApart : List Source → Type 0
AreWrittenApart es = AllByRecursion (λ e. HaveDistinctWrittenNames e.fields) es

-- Entries that were read back come to the library of those that were written, or to the same faults.
abbrev pub EntriesReadBackHaveOneLibrary : Type 0
EntriesReadBackHaveOneLibrary = (es fs : List Source) → AreReadBack es fs → AreWrittenApart es → library_of fs ≡ library_of es
