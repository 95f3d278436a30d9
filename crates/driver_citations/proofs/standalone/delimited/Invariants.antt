use Rattle.std.proofs.Common.{◌≡◌, true, length, map}
use Rattle.std.specs.Option.{option_map}
use Rattle.std.specs.Str.{chars}
use Rattle.std.specs.Vec.Iter.{into_iter_items, into_iter_len}
use Rattle.rendering_page.specs.Views.{quotes_view}
use Rattle.rendering_tree.specs.Trees.{nothing}
use Rattle.rendering_tree.specs.Views.{tree_view}
use Rattle.driver_citations.specs.Joining.{trees_put}
use Rattle.driver_citations.proofs.standalone.delimited.Given as goal

abbrev pub invariant-loop-tree : goal.invariant-loop-tree
invariant-loop-tree l = record {
  same : trees_put (option_map (λ q. quotes_view q.now) l.quotes) l.look (chars l.between) l.is_first (tree_view l.inside) (map tree_view (into_iter_items l.tree-iterator)) ≡ trees_put (option_map (λ q. quotes_view q.now) l.quotes) l.look (chars l.between) true nothing (map tree_view l.fn.trees.items);
  long : into_iter_len l.tree-iterator ≡ length (into_iter_items l.tree-iterator);
}
