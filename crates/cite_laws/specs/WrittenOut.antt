-- References may be written out: a field that comes by reference prints as if it stood in the entry, and the references were gone.
use Rattle.std.specs.Prelude.{◌≡◌, ◌↔◌, ℕ, List, None, Result, Ok, codes}
use Rattle.std.specs.List.{AllByRecursion}
use Rattle.std.specs.Str.{chars}
use Rattle.biblatex.specs.Listed.{Listed}
use Rattle.biblatex.specs.Entries.{Source}
use Rattle.biblatex.specs.Fields.{value_named}
use Rattle.biblatex_laws.specs.Files.{IsFileOf}
use Rattle.biblatex_writing.specs.Flat.{flat}
use Rattle.interop.specs.Library.{AreAlike}
use Rattle.interop.specs.SameFiles.{SayTheSame}
use Rattle.cite_requests.specs.Stages.{Refusal, IsRead}
use Rattle.cite.specs.Verdict.{Task, IsVerdict}

-- Two bib texts have one verdict for every task: the same output, or the same refusal.
abbrev pub HaveOneVerdict : List ℕ → List ℕ → Type 0
HaveOneVerdict bib other =
    (task : Task) (answer : Result (List ℕ) Refusal) → IsVerdict bib task answer ↔ IsVerdict other task answer

-- Two bib texts are read as files whose entries, without `crossref`, say the same. Then they have one verdict for every task. An entry
-- that was read has the fields that it inherits beside its own; of its references it keeps `crossref`, which `flat` takes out, and no
-- `xdata`. So the other text may be the one in which an author wrote into each entry what comes to it by reference, and took the
-- references away. Aliases are fields too, so names mean entries at one index in both.
abbrev pub ReferencesMayBeWrittenOut : Type 0
ReferencesMayBeWrittenOut =
    (bib other : List ℕ) (file written : Listed) → IsRead bib (Ok file) → IsRead other (Ok written)
    → SayTheSame (flat file.entries) (flat written.entries) → HaveOneVerdict bib other

-- The same holds where the entries have, one by one, the same contents under the names that fields are written under. So of two fields
-- that are written under one name, as `location` and an `address` that comes by reference, the one that counts may stand alone.
abbrev pub ContentsMayBeWrittenOut : Type 0
ContentsMayBeWrittenOut =
    (bib other : List ℕ) (file written : Listed) → IsRead bib (Ok file) → IsRead other (Ok written)
    → AreAlike (flat file.entries) (flat written.entries) → HaveOneVerdict bib other

-- an entry with neither `crossref` nor `xdata`
abbrev pub HasNoReferences : Source → Type 0
HasNoReferences e = (value_named (codes "crossref") e.fields ≡ None) × (value_named (codes "xdata") e.fields ≡ None)

-- The same holds of the other text as its author sees it: its entries have no references, and, as they stand in it, they say what the
-- entries of the first text say once their references are resolved.
abbrev pub AuthorsMayWriteReferencesOut : Type 0
AuthorsMayWriteReferencesOut =
    (bib other : List ℕ) (file standing written : Listed) → IsRead bib (Ok file) → IsRead other (Ok written)
    → IsFileOf (chars other) standing written → AllByRecursion HasNoReferences standing.entries
    → SayTheSame (flat file.entries) standing.entries → HaveOneVerdict bib other
