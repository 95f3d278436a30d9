-- Libraries of the code as callers see them.
use Rattle.std.specs.Prelude.{List}
use Rattle.std.specs.Map.{values_of}
use Rattle.literature_entries.specs.declared.entry.Entry.{Entry}
use Rattle.literature.specs.declared.library.Library.{Library}

-- the entries in order
abbrev pub entries : Library → List Entry
entries l = values_of l.entries.entries
