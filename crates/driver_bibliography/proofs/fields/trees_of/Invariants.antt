use Rattle.std.proofs.Common.{◌≡◌, length, map}
use Rattle.std.specs.Vec.Iter.{into_iter_items, into_iter_len}
use Rattle.driver_bibliography.specs.Views.{printed_view}
use Rattle.driver_bibliography.proofs.EachSteps.{trees_from}
use Rattle.driver_bibliography.proofs.fields.trees_of.Given as goal

abbrev pub invariant-loop-item : goal.invariant-loop-item
invariant-loop-item l = record {
  same : trees_from l.trees.items (into_iter_items l.item-iterator) ≡ map (λ p. p.tree) (map printed_view l.fn.printed.items);
  long : into_iter_len l.item-iterator ≡ length (into_iter_items l.item-iterator);
}
