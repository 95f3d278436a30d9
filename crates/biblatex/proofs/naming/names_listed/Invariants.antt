use Rattle.std.proofs.Common.{◌≡◌, take}
use Rattle.biblatex_entries.specs.Entries.{sources_view}
use Rattle.biblatex.specs.Indices.{names_in}
use Rattle.biblatex.specs.Naming.{names_from}
use Rattle.biblatex.proofs.naming.names_listed.Given as goal

abbrev pub invariant-loop-index : goal.invariant-loop-index
invariant-loop-index l = names_in l.names.items ≡ names_from 0 (sources_view (take l.index l.entries))
