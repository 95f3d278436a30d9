use Rattle.std.proofs.Common.{◌≡◌, ◌++◌, map, length}
use Rattle.std.specs.Vec.Iter.{into_iter_items, into_iter_len}
use Rattle.sorting.specs.Keyed.{value_of}
use Rattle.sorting.proofs.keyed.values.Given as goal

abbrev pub invariant-loop-item : goal.invariant-loop-item
invariant-loop-item g l = record {
  same : l.values.items ++ map value_of (into_iter_items l.item-iterator) ≡ map value_of l.fn.items.items;
  long : into_iter_len l.item-iterator ≡ length (into_iter_items l.item-iterator);
}
