use Rattle.std.proofs.Common.{◌≡◌, ◌++◌, length, map}
use Rattle.std.specs.Vec.Iter.{into_iter_items, into_iter_len}
use Rattle.rendering_tree.specs.Views.{tree_view}
use Rattle.driver_bibliography.specs.Items.{fields_by}
use Rattle.driver_bibliography.specs.Views.{fields_view}
use Rattle.driver_bibliography.proofs.fields.fields_of_all.Given as goal

abbrev pub invariant-loop-tree : goal.invariant-loop-tree
invariant-loop-tree l = record {
  same : map fields_view l.items.items ++ map (fields_by l.align) (map tree_view (into_iter_items l.tree-iterator)) ≡ map (fields_by l.align) (map tree_view l.fn.trees.items);
  long : into_iter_len l.tree-iterator ≡ length (into_iter_items l.tree-iterator);
}
