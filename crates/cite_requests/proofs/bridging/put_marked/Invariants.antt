use Rattle.std.proofs.Common.{◌≡◌, drop, map}
use Rattle.interop.specs.Views.{fault_view, library_view}
use Rattle.cite_requests.specs.Cited.{come_to, marked_entries}
use Rattle.cite_requests.proofs.bridging.put_marked.Given as goal

abbrev pub invariant-loop-index : goal.invariant-loop-index
invariant-loop-index l =
    come_to (map fault_view l.faults.items) (library_view l.library) (marked_entries (drop l.index l.marks) (drop l.index l.file.entries))
    ≡ come_to (map fault_view l.fn.faults.items) (library_view l.fn.library) (marked_entries l.marks l.file.entries)
