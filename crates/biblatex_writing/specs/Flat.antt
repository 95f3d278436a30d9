-- Entries without references.
use Rattle.std.specs.Prelude.{List, map, codes}
use Rattle.biblatex_fields.specs.Fields.{without_field}
use Rattle.biblatex_entries.specs.Entries.{Source}

-- an entry without `crossref`
abbrev pub flat_entry : Source → Source
flat_entry e = record { key = e.key; entry_type = e.entry_type; fields = without_field (codes "crossref") e.fields }

abbrev pub flat : List Source → List Source
flat es = map flat_entry es
