use Rattle.std.proofs.Common.{◌≡◌, ◌++◌, map, drop}
use Rattle.rendering_tree.specs.Views.{tree_view}
use Rattle.rendering.specs.Views.{style_context_view}
use Rattle.driver_requests.specs.Views.{item_view}
use Rattle.driver_citations.specs.Standalone.{all_alone}
use Rattle.driver_citations.proofs.standalone.print_items.Given as goal

abbrev pub invariant-loop-item : goal.invariant-loop-item
invariant-loop-item g l =
    map tree_view l.trees.items ++ all_alone (style_context_view l.context) (map (item_view (λ e. 0) g.T.EntryLike.answers) (drop l.item-index l.items)) ≡ all_alone (style_context_view l.context) (map (item_view (λ e. 0) g.T.EntryLike.answers) l.items)
