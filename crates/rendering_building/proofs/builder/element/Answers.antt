use Rattle.std.proofs.Common.{ap, ◌∙◌}
use Rattle.std.specs.Option.{option_map}
use Rattle.rendering_tree.specs.Trees.{Elem}
use Rattle.rendering_tree.specs.Views.{meta_view, children_view}
use Rattle.rendering_tree.proofs.ViewsLevels.{child_rolled, tree_rolled}
use Rattle.rendering_tree.specs.declared.element.ElemChildren.{roll-ElemChildren}
use Rattle.rendering_building.proofs.builder.element.Goals as goal

pub returns : goal.returns
returns c =
    child_rolled (record { children = roll-ElemChildren (record { 0 = c.in_order.result }); display = c.args.display; meta = c.args.meta })
    ∙ ap (Elem c.args.display (option_map meta_view c.args.meta)) (tree_rolled (record { 0 = c.in_order.result }) ∙ ap children_view c.in_order.ensures)
