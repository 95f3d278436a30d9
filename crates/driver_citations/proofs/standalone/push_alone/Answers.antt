use Rattle.std.proofs.Common.{map}
use Rattle.rendering_tree.specs.Views.{tree_view}
use Rattle.rendering_tree.proofs.SimplifySteps.{on_ok}
use Rattle.rendering.specs.Views.{style_context_view}
use Rattle.driver_requests.specs.Views.{item_view}
use Rattle.driver_citations.proofs.StandaloneSteps.{hidden_alone, shown_alone}
use Rattle.driver_citations.proofs.standalone.push_alone.Goals as goal

pub returns-then-item : goal.returns-then-item
returns-then-item g c = hidden_alone (style_context_view c.args.context.now) (item_view (λ e. 0) g.T.EntryLike.answers c.args.item.now) (map tree_view c.args.trees.now.items) c.if-item.true

pub returns : goal.returns
returns g c =
    on_ok c.push_content.result
    (shown_alone (style_context_view c.args.context.now) (item_view (λ e. 0) g.T.EntryLike.answers c.args.item.now) (map tree_view c.args.trees.now.items) (map tree_view c.push_content.new.trees.items) (tree_view c.in_ok-printed_alone.field-0) c.if-item.false
    c.in_ok-printed_alone.ensures)
    c.push_content.ensures
