use Rattle.std.proofs.Common.{◌≡◌, ◌++◌, drop, map}
use Rattle.interop.specs.Library.{all_faults}
use Rattle.interop.specs.Views.{fault_view}
use Rattle.cite_requests.proofs.bridging.date_faults.Given as goal

abbrev pub invariant-loop-index : goal.invariant-loop-index
invariant-loop-index l = map fault_view l.faults.items ++ all_faults (drop l.index l.file.entries) ≡ all_faults l.file.entries
