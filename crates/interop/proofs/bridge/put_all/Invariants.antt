use Rattle.std.proofs.Common.{◌≡◌, ◌++◌, drop, map}
use Rattle.biblatex_entries.specs.Entries.{sources_view}
use Rattle.interop.specs.Bridge.{unless_faulty}
use Rattle.interop.specs.Library.{all_faults, all_works, put_after}
use Rattle.interop.specs.Views.{fault_view, library_view}
use Rattle.interop.proofs.bridge.put_all.Given as goal

abbrev pub invariant-loop-read : goal.invariant-loop-read
invariant-loop-read l = unless_faulty (map fault_view l.faults.items ++ all_faults (sources_view (drop l.read-index l.entries))) (put_after (library_view l.library) (all_works (sources_view (drop l.read-index l.entries)))) ≡ unless_faulty (map fault_view l.fn.faults.items ++ all_faults (sources_view l.entries)) (put_after (library_view l.fn.library) (all_works (sources_view l.entries)))
