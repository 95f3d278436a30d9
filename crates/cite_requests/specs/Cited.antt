-- The works that a call needs: where it has sections, which may choose any, all works of the file, and else those that the document cites.
use Rattle.std.specs.Prelude.{ℕ, Bool, true, false, List, [], ◌∷◌, ◌++◌, filter, option_to_list, slice_set, Option, Some, None, Result, codes, if◌then◌else◌}
use Rattle.std.specs.List.{flat_map, list_any}
use Rattle.std.specs.Option.{option_map, unwrap_or}
use Rattle.std.specs.Str.{bytes_eq}
use Rattle.laws.specs.Text.{text, is_filled}
use Rattle.biblatex.specs.Listed.{Listed, entry_named}
use Rattle.biblatex.specs.Entries.{Source}
use Rattle.literature_entries.specs.EntriesData.{EntryData}
use Rattle.interop.specs.Bridge.{Fault, unless_faulty}
use Rattle.interop.specs.Library.{all_faults, all_works, put_after}
use Rattle.cite_markers.specs.Document.{Piece, Text, Marker}
use Rattle.cite_markers.specs.Marker.{Cite}
use Rattle.cite_requests.specs.Works.{Works}

-- the library that entries come to where all their dates can be read
abbrev pub library_from : List Source → List EntryData
library_from es = put_after [] (all_works es)

-- a file with that of all its entries
abbrev pub works_of : Listed → Works
works_of file = record { file = file; library = library_from file.entries }

-- the key of the entry that a name means, if it means one
abbrev pub key_meant : Listed → List ℕ → List (List ℕ)
key_meant file name = option_to_list (option_map (λ e. e.key) (entry_named name file))

-- the keys of the entries that cites name
abbrev pub keys_named : Listed → List Cite → List (List ℕ)
keys_named file cites = flat_map (λ c. key_meant file (text c.name)) cites

abbrev pub keys_in : Listed → Piece → List (List ℕ)
keys_in file (Text t) = []
keys_in file (Marker cites) = keys_named file cites

-- the keys of the entries that a document cites
abbrev pub keys_cited : Listed → List Piece → List (List ℕ)
keys_cited file pieces = flat_map (keys_in file) pieces

-- whether a key is among others
abbrev pub is_among : List (List ℕ) → List ℕ → Bool
is_among keys key = list_any (bytes_eq key) keys

-- the entries with these keys
abbrev pub entries_with : List (List ℕ) → List Source → List Source
entries_with keys es = filter (λ e. is_among keys e.key) es

-- marks, with one for the entry at an index, if there is one
abbrev pub marked_at : Option ℕ → List Bool → List Bool
marked_at None marks = marks
marked_at (Some index) marks = slice_set marks index true

-- marks, with those of the entries that cites name
abbrev pub marked_cites : Listed → List Bool → List Cite → List Bool
marked_cites file marks [] = marks
marked_cites file marks (c ∷ cs) = marked_cites file (marked_at (file.index (text c.name)) marks) cs

abbrev pub marked_in : Listed → List Bool → Piece → List Bool
marked_in file marks (Text t) = marks
marked_in file marks (Marker cites) = marked_cites file marks cites

-- marks, with those of the entries that pieces cite
abbrev pub marked_pieces : Listed → List Bool → List Piece → List Bool
marked_pieces file marks [] = marks
marked_pieces file marks (p ∷ ps) = marked_pieces file (marked_in file marks p) ps

-- the entries that have a mark, of which there is one for each
abbrev pub marked_entries : List Bool → List Source → List Source
marked_entries [] es = []
marked_entries (m ∷ ms) [] = []
marked_entries (true ∷ ms) (e ∷ es) = e ∷ marked_entries ms es
marked_entries (false ∷ ms) (e ∷ es) = marked_entries ms es

-- what entries come to after works and faults: the library of all, or all faults
abbrev pub come_to : List Fault → List EntryData → List Source → Result (List EntryData) (List Fault)
come_to fs ws es = unless_faulty (fs ++ all_faults es) (put_after ws (all_works es))

-- the entry at an index, alone, where it has a mark
abbrev pub marked_here : Option Bool → Option Source → List Source
marked_here mark o = if unwrap_or mark false then option_to_list o else []

-- the fields that are read as dates, and those that a date is made of
abbrev pub read_as_dates : List (List ℕ)
read_as_dates = codes "date" ∷ codes "year" ∷ codes "month" ∷ codes "day" ∷ codes "eventdate" ∷ codes "origdate" ∷ codes "urldate" ∷ []

-- the entries that are needed
abbrev pub entries_needed : Listed → List (List ℕ) → List Piece → List Source
entries_needed file sections pieces = if is_filled sections then file.entries else entries_with (keys_cited file pieces) file.entries

-- their library
abbrev pub library_needed : Listed → List (List ℕ) → List Piece → List EntryData
library_needed file sections pieces = library_from (entries_needed file sections pieces)
