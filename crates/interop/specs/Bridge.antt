-- The bridge: what an entry of a file is in a library, or what is wrong with its dates.
use Rattle.std.specs.Prelude.{ℕ, List, [], ◌∷◌, ◌++◌, Option, Some, None, Result, Ok, Err, codes, option_to_list}
use Rattle.std.specs.Option.{option_map}
use Rattle.biblatex_content.specs.Styled.{Member}
use Rattle.biblatex_dates.specs.declared.error.TypeErrorKind.{TypeErrorKind}
use Rattle.biblatex_entries.specs.Entries.{Source}
use Rattle.biblatex_entries.specs.TypeNames.{TypeName, written_type}
use Rattle.literature_values.specs.declared.date.Date.{Date}
use Rattle.literature_values.specs.declared.entry_type.EntryType.{EntryType}
use Rattle.literature_values.specs.declared.entry_type.EntryType.TheVariants as works
use Rattle.literature_entries.specs.Fields.{Fields, nothing_but}
use Rattle.interop.specs.Kinds.{Container, row_of}
use Rattle.interop_values.specs.Values.{Values, values}
use Rattle.interop_values.specs.Readings.{ReadDate, format_of, people_under, own_date, date_under, date_if_read}
use Rattle.interop.specs.Fields.{own_fields, container_fields}
use Rattle.literature_entries.specs.EntriesData.{EntryData, Holding, wholes}

-- a field that cannot be read: the key of its entry, its written name, and why
pub record Fault : Type 0 where
  pub key : List ℕ
  pub field : List ℕ
  pub kind : TypeErrorKind

-- the fault of a date, if it has one
abbrev pub fault_in : List ℕ → List ℕ → ReadDate → List Fault
fault_in key field None = []
fault_in key field (Some (Ok d)) = []
fault_in key field (Some (Err kind)) = record { key = key; field = field; kind = kind } ∷ []

-- the faults of an entry's dates
abbrev pub faults_of : List ℕ → Values → List Fault
faults_of key v =
    fault_in key (codes "date") (own_date v) ++
    (fault_in key (codes "eventdate") (date_under (codes "eventdate") v) ++
    (fault_in key (codes "origdate") (date_under (codes "origdate") v) ++
    fault_in key (codes "urldate") (date_under (codes "urldate") v)))

-- a work that others are part of; it has no key
abbrev pub parent : Fields → List EntryData → EntryData
parent fs ws = Holding [] fs (wholes ws)

-- a work of a title alone
abbrev pub titled : EntryType → List Member → EntryData
titled t ms = parent (record (nothing_but t) { title = Some (format_of ms) }) []

-- a work of the title under a name, where there is one
abbrev pub titled_under : EntryType → List ℕ → Values → List EntryData
titled_under t name v = option_to_list (option_map (titled t) (v name))

-- the work that holds the entry: its own title and authors, and what the fields say of it; the series is its parent
abbrev pub container_entry : Values → EntryType → List Member → EntryData
container_entry v t ms = parent (container_fields v (record (nothing_but t) { title = Some (format_of ms); author = people_under (codes "bookauthor") v })) (titled_under works.Anthology (codes "series") v)

-- the conference, where its title or its date is there
abbrev pub conference_of : Option (List Member) → Option Date → List EntryData
conference_of None None = []
conference_of title date = parent (record (nothing_but works.Conference) { title = option_map format_of title; date = date }) [] ∷ []

-- the original, where its date is there
abbrev pub original_of : Option Date → List EntryData
original_of None = []
original_of (Some d) = parent (record (nothing_but works.Original) { date = Some d }) [] ∷ []

-- parents that are not parents of the container: the work of several volumes, the series, which is given only where there is no container,
-- the conference and the original
abbrev pub further : List EntryData → Values → List EntryData
further series v =
    titled_under works.Book (codes "maintitle") v ++
    (series ++
    (conference_of (v (codes "eventtitle")) (date_if_read (date_under (codes "eventdate") v)) ++
    original_of (date_if_read (date_under (codes "origdate") v))))

-- an entry without a container, or in the container of a title
abbrev pub entry_in : List ℕ → Values → EntryType → Option (EntryType × List Member) → EntryData
entry_in key v t None = Holding key (container_fields v (own_fields v t)) (wholes (further (titled_under works.Anthology (codes "series") v) v))
entry_in key v t (Some outer) = Holding key (own_fields v t) (wholes (container_entry v outer.0 outer.1 ∷ further [] v))

-- the container of a row, where its title is there
abbrev pub container_of : Option Container → Values → Option (EntryType × List Member)
container_of None v = None
container_of (Some c) v = option_map (λ ms. (c.entry_type, ms)) (v c.title)

-- the entry of a library that has a key, a written type and contents under written names
abbrev pub work_of : List ℕ → TypeName → Values → EntryData
work_of key t v = entry_in key v (row_of t).entry_type (container_of (row_of t).container v)

-- a work, unless there are faults
abbrev pub unless_faulty : {W : Type 0} → List Fault → W → Result W (List Fault)
unless_faulty [] w = Ok w
unless_faulty (f ∷ fs) w = Err (f ∷ fs)

-- an entry of a file as one of a library, or all its faults; also one whose fields are for others only
abbrev pub bridged : Source → Result EntryData (List Fault)
bridged e = unless_faulty (faults_of e.key (values e.fields)) (work_of e.key (written_type e.entry_type) (values e.fields))
