-- Names of fields, and whether an entry has them. Names are bytes.
use Rattle.std.specs.Prelude.{ℕ, Bool, false, List, [], ◌∷◌, Option, Some, None, is_some, codes}
use Rattle.std.specs.Option.{option_or, unwrap_or}
use Rattle.std.specs.Str.{bytes_eq}
use Rattle.std.specs.Ordering.{nat_cmp}
use Rattle.std.specs.Cmp.Lexicographic.{slice_cmp}
use Rattle.std.specs.Map.{lookup}
use Rattle.std.specs.BTreeMap.{insert_entry}
use Rattle.literature_entries.specs.Fields.{Fields, Serials}

-- the number under a scheme's name, where there are serial numbers
abbrev pub number_under : List ℕ → Option Serials → Option (List ℕ)
number_under scheme None = None
number_under scheme (Some numbers) = lookup (bytes_eq scheme) numbers

-- the same of an entry
abbrev pub serial : List ℕ → Fields → Option (List ℕ)
serial scheme fs = number_under scheme fs.serial_number

-- A number under a scheme's name, instead of the one that was there, or inserted in the order of the names.
abbrev pub with_number : List ℕ → List ℕ → Option Serials → Serials
with_number scheme number None = (scheme, number) ∷ []
with_number scheme number (Some numbers) = insert_entry (slice_cmp nat_cmp) numbers scheme number

-- the same of an entry
abbrev pub with_serial : List ℕ → List ℕ → Fields → Fields
with_serial scheme number fs = record fs { serial_number = Some (with_number scheme number fs.serial_number) }

-- the text of a number or of pages as it was written, by the name of its field
abbrev pub written : List ℕ → Fields → Option (List ℕ)
written field fs = number_under field fs.written

-- an entry with such a text
abbrev pub with_written : List ℕ → List ℕ → Fields → Fields
with_written field cs fs = record fs { written = Some (with_number field cs fs.written) }

-- whether a field that says what the work is and who made it is set, or nothing where no such field has the name
unfoldable pub of_work : List ℕ → Fields → Option Bool
of_work name fs = lookup (bytes_eq name) (
    (codes "title", is_some fs.title) ∷
    (codes "author", is_some fs.author) ∷
    (codes "editor", is_some fs.editor) ∷
    (codes "translator", is_some fs.translator) ∷
    (codes "date", is_some fs.date) ∷
    (codes "publisher", is_some fs.publisher) ∷ [])

-- the same of a field that says what part of other works the work is
unfoldable pub of_part : List ℕ → Fields → Option Bool
of_part name fs = lookup (bytes_eq name) (
    (codes "volume", is_some fs.volume) ∷
    (codes "volume-total", is_some fs.volume_total) ∷
    (codes "issue", is_some fs.issue) ∷
    (codes "chapter", is_some fs.chapter) ∷
    (codes "edition", is_some fs.edition) ∷
    (codes "page-range", is_some fs.page_range) ∷
    (codes "page-total", is_some fs.page_total) ∷ [])

-- the same of a field that says where the work is found, and of parents, of which it is given whether there are any
unfoldable pub of_address : List ℕ → Fields → Bool → Option Bool
of_address name fs has_parents = lookup (bytes_eq name) (
    (codes "url", is_some fs.url) ∷
    (codes "serial-number", is_some fs.serial_number) ∷
    (codes "note", is_some fs.note) ∷
    (codes "language", is_some fs.language) ∷
    (codes "parent", has_parents) ∷ [])

-- the same of a serial number by the name of its scheme
unfoldable pub of_scheme : List ℕ → Fields → Option Bool
of_scheme name fs = lookup (bytes_eq name) (
    (codes "doi", is_some (serial (codes "doi") fs)) ∷
    (codes "isbn", is_some (serial (codes "isbn") fs)) ∷
    (codes "issn", is_some (serial (codes "issn") fs)) ∷
    (codes "pmid", is_some (serial (codes "pmid") fs)) ∷
    (codes "pmcid", is_some (serial (codes "pmcid") fs)) ∷
    (codes "arxiv", is_some (serial (codes "arxiv") fs)) ∷ [])

-- whether the field of that name is set; another name is no field's
abbrev pub has : List ℕ → Fields → Bool → Bool
has name fs has_parents = unwrap_or (option_or (option_or (option_or (of_work name fs) (of_part name fs)) (of_address name fs has_parents)) (of_scheme name fs)) false
