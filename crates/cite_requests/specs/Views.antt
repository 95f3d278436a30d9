-- What the code has and returns, without where it lies in memory.
use Rattle.std.specs.Prelude.{ℕ, Bool, List, map}
use Rattle.std.specs.Borrow.{Bor}
use Rattle.std.specs.BTreeSet.{BTreeSet}
use Rattle.std.specs.List.{list_any}
use Rattle.std.specs.Str.{bytes_eq}
use Rattle.biblatex.specs.Bibliographies.{listed_view}
use Rattle.biblatex.specs.Listed.{Listed}
use Rattle.interop.specs.Views.{library_view}
use Rattle.literature.specs.declared.library.Library.{Library}
use Rattle.literature_entries.specs.EntriesData.{EntryData, entry_view}
use Rattle.literature_entries.specs.declared.entry.Entry.{Entry}
use Rattle.cite_requests.specs.Cited.{works_of}
use Rattle.cite_requests.specs.Works as specs
use Rattle.cite_requests.specs.declared.bib_file.BibFile.{BibFile}

-- the entries of a bib text
abbrev pub file_view : BibFile → Listed
file_view w = listed_view w.file

-- its works: the entries, and the library that they come to
abbrev pub file_works : BibFile → specs.Works
file_works w = works_of (file_view w)

-- its entries with a library that was made of them, or of some of them
abbrev pub file_works_with : BibFile → Library → specs.Works
file_works_with w library = record { file = file_view w; library = library_view library }

-- whether a set of texts has one that is the same
abbrev pub has : BTreeSet (Bor (List ℕ)) → Bor (List ℕ) → Bool
has texts t = list_any (λ (x : Bor (List ℕ)). bytes_eq t.now x.now) texts.keys

-- borrowed entries as works
abbrev pub lent_works_view : List (Bor Entry) → List EntryData
lent_works_view es = map (λ (e : Bor Entry). entry_view e.now) es
