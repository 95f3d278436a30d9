use Rattle.std.proofs.Common.{◌≡◌, drop}
use Rattle.rendering_tree.specs.Views.{children_view}
use Rattle.driver_bibliography.specs.Substitution.{has_single_names}
use Rattle.driver_bibliography.proofs.lists.has_single_names.Given as goal

abbrev pub invariant-loop-part : goal.invariant-loop-part
invariant-loop-part l = has_single_names (children_view (drop l.part-index l.parts)) ≡ has_single_names (children_view l.parts)
