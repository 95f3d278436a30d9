use Rattle.std.proofs.Common.{◌≡◌, length}
use Rattle.std.specs.Vec.Iter.{into_iter_items, into_iter_len}
use Rattle.rendering_tree.specs.Simplify.{Puts}
use Rattle.rendering_tree.specs.Trees.{Children, flat}
use Rattle.rendering_tree.specs.Views.{children_view}
use Rattle.rendering_tree.proofs.simplify.+simplify.Given as goal

abbrev pub invariant-push_all-loop-part : goal.invariant-push_all-loop-part
invariant-push_all-loop-part l = record {
  same : (new : Children) → Puts (flat (children_view (into_iter_items l.part-iterator))) (children_view l.simple.items) new → Puts (flat (children_view l.fn.parts.0.items)) (children_view l.fn.simple.items) new;
  long : into_iter_len l.part-iterator ≡ length (into_iter_items l.part-iterator);
}
