use Rattle.std.proofs.Common.{◌≡◌, length}
use Rattle.std.specs.Vec.Iter.{into_iter_items, into_iter_len}
use Rattle.rendering_tree.specs.Trees.{followed_by}
use Rattle.rendering_tree.specs.Views.{children_view, tree_view}
use Rattle.driver_citations.proofs.citation.append.Given as goal

abbrev pub invariant-loop-part : goal.invariant-loop-part
invariant-loop-part l = record {
  same : followed_by (tree_view l.parts) (children_view (into_iter_items l.part-iterator)) ≡ followed_by (tree_view l.fn.parts) (tree_view l.fn.more);
  long : into_iter_len l.part-iterator ≡ length (into_iter_items l.part-iterator);
}
