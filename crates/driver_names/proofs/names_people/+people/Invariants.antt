use Rattle.std.proofs.Common.{◌≡◌, ◌++◌, drop}
use Rattle.rendering_tree.specs.Views.{children_view, tree_view}
use Rattle.driver_names.specs.Names.{people_in}
use Rattle.driver_names.proofs.names_people.+people.Given as goal

abbrev pub invariant-push_people-loop-part : goal.invariant-push_people-loop-part
invariant-push_people-loop-part l = l.people.items ++ people_in (children_view (drop l.part-index l.tree.0.items)) ≡ l.fn.people.items ++ people_in (tree_view l.tree)
