-- What the code holds, as plain data.
use Rattle.std.specs.Prelude.{◌≡◌, List, map, Option, Some, None, codes, string_bytes}
use Rattle.std.specs.Borrow.{Bor}
use Rattle.std.specs.Option.{option_map}
use Rattle.biblatex_entries.specs.Entries.{Source, source_view}
use Rattle.biblatex_entries.specs.declared.entry.Entry.{Entry}
use Rattle.interop.specs.Kinds.{Container, Row}
use Rattle.interop.specs.Bridge.{Fault}
use Rattle.interop.specs.DateFields.{field_name}
use Rattle.interop.specs.declared.kinds.Container.{Container as CodeContainer}
use Rattle.interop.specs.declared.kinds.Row.{Row as CodeRow}
use Rattle.literature.specs.Entries.{entries}
use Rattle.literature.specs.declared.library.Library.{Library}
use Rattle.literature_entries.specs.EntriesData.{EntryData, entry_view}
use Rattle.literature_entries.specs.Fields.{Fields}
use Rattle.interop_values.specs.Values.{Values}
use Rattle.interop_values.specs.Readings.{own_date, date_under, date_if_read}
use Rattle.interop.specs.declared.dates.Dates.{Dates}
use Rattle.interop.specs.declared.error.FieldFault.{FieldFault}
use Rattle.interop.specs.declared.error.BridgeError.{BridgeError}
use Rattle.interop.specs.declared.error.BridgeError.TheVariants as errors

-- the entries of a file that are borrowed
abbrev pub lent_sources_view : List (Bor Entry) → List Source
lent_sources_view es = map (λ (e : Bor Entry). source_view e.now) es

abbrev pub container_view : CodeContainer → Container
container_view c = record { entry_type = c.entry_type; title = c.title.now }

abbrev pub row_view : CodeRow → Row
row_view r = record { entry_type = r.entry_type; container = option_map container_view r.container }

abbrev pub fault_view : FieldFault → Fault
fault_view f = record { key = string_bytes f.key; field = field_name f.field; kind = f.kind }

-- the works of a library
abbrev pub library_view : Library → List EntryData
library_view l = map entry_view (entries l)

-- the faults that an error has; out of memory has none
abbrev pub refusal_of : BridgeError → Option (List Fault)
refusal_of errors.Memory = None
refusal_of (errors.Fields fs) = Some (map fault_view fs.items)

-- the dates of an entry as a library keeps them
abbrev pub dates_of : Values → Dates
dates_of v = record {
  own = date_if_read (own_date v);
  event = date_if_read (date_under (codes "eventdate") v);
  original = date_if_read (date_under (codes "origdate") v);
  visited = date_if_read (date_under (codes "urldate") v);
}

-- Nothing is set yet of what a container says.
pub record IsBare (fs : Fields) : Type 0 where
  pub editor : fs.editor ≡ None
  pub publisher : fs.publisher ≡ None
  pub volume : fs.volume ≡ None
  pub volume_total : fs.volume_total ≡ None
  pub issue : fs.issue ≡ None
  pub edition : fs.edition ≡ None
