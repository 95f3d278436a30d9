use Rattle.std.proofs.Common.{◌≡◌, ◌++◌, drop, map}
use Rattle.biblatex_entries.specs.Entries.{sources_view}
use Rattle.interop.specs.Library.{all_faults}
use Rattle.interop.specs.Views.{fault_view}
use Rattle.interop.proofs.date_faults.date_faults.Given as goal

abbrev pub invariant-loop-read : goal.invariant-loop-read
invariant-loop-read l = map fault_view l.faults.items ++ all_faults (sources_view (drop l.read-index l.entries)) ≡ all_faults (sources_view l.entries)
