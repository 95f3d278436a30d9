-- What was read, as it lies in memory.
use Rattle.std.specs.Prelude.{map, option_and_then}
use Rattle.biblatex_text.specs.Views.{spanned_text_view}
use Rattle.biblatex_fields.specs.Errors.{refusal_of}
use Rattle.biblatex_entries.specs.Entries.{sources_view}
use Rattle.biblatex_reading.specs.Reading.{UpToFault}
use Rattle.biblatex_reading.specs.declared.reading.ReadEntries.{ReadEntries}

-- entries that were read up to the first fault of a field
abbrev pub read_view : ReadEntries → UpToFault
read_view r = record { entries = sources_view r.entries.items; keys = map spanned_text_view r.keys.items; fault = option_and_then refusal_of r.fault }
