use Rattle.std.proofs.Common.{map}
use Rattle.rendering_tree.specs.Views.{tree_view}
use Rattle.rendering.specs.Views.{style_context_view}
use Rattle.driver_requests.specs.Views.{item_view}
use Rattle.driver_citations.proofs.StandaloneSteps.{items_end, items_go_on}
use Rattle.driver_citations.proofs.standalone.print_items.Goals as goal

pub loop-item-preserved : goal.loop-item-preserved
loop-item-preserved g c =
    items_go_on (style_context_view c.args.context.now) (item_view (λ e. 0) g.T.EntryLike.answers) c.args.items.now c.loop-item.item-index c.item-item.result (map tree_view c.loop-item.trees.items) (map tree_view c.push_alone.new.trees.items) _
    c.loop-item-test.true c.item-item.is c.loop-item.invariant c.in_ok-push_alone.ensures

pub returns : goal.returns
returns g c =
    items_end (style_context_view c.args.context.now) (item_view (λ e. 0) g.T.EntryLike.answers) c.args.items.now c.loop-item.item-index (map tree_view c.loop-item.trees.items) _ c.loop-item-test.false c.loop-item.invariant
