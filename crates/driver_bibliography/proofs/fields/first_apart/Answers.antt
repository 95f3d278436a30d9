use Rattle.rendering_tree.specs.Trees.{parted}
use Rattle.rendering_tree.specs.Views.{element_view, tree_view}
use Rattle.driver_bibliography.proofs.FieldsParted.{whole_item, parted_item}
use Rattle.driver_bibliography.proofs.fields.first_apart.Goals as goal

pub returns-in_ok-simplify_children-in-Some : goal.returns-in_ok-simplify_children-in-Some
returns-in_ok-simplify_children-in-Some c =
    parted_item (tree_view c.args.item) (tree_view c.in_ok-simplify_children-in-Some.field-0) (tree_view c.remove_any_meta.new.self) (element_view c.in-Some.elem) (parted (tree_view c.args.item)) c.in-Some.ensures.taken c.in-Some.ensures.left
    c.in_ok-simplify_children-in-Some.ensures

pub returns-in-None : goal.returns-in-None
returns-in-None c = whole_item (tree_view c.args.item) (tree_view c.remove_any_meta.new.self) (parted (tree_view c.args.item)) c.in-None.ensures.taken c.in-None.ensures.left
