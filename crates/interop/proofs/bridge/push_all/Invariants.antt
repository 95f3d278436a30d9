use Rattle.std.proofs.Common.{◌≡◌, ◌++◌, map, length}
use Rattle.std.specs.Vec.Iter.{into_iter_items, into_iter_len}
use Rattle.interop.specs.Views.{fault_view}
use Rattle.interop.proofs.bridge.push_all.Given as goal

abbrev pub invariant-loop-fault : goal.invariant-loop-fault
invariant-loop-fault l = record {
  same : map fault_view l.faults.items ++ map fault_view (into_iter_items l.fault-iterator) ≡ map fault_view l.fn.faults.items ++ map fault_view l.fn.found.items;
  long : into_iter_len l.fault-iterator ≡ length (into_iter_items l.fault-iterator);
}
