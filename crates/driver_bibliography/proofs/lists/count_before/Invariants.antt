use Rattle.std.proofs.Common.{◌≡◌, ◌≤◌, ◌-◌, drop, length}
use Rattle.rendering_tree.specs.Views.{children_view}
use Rattle.driver_bibliography.specs.Substitution.{has_single_names}
use Rattle.driver_bibliography.proofs.ListsReplaced.{Leading}
use Rattle.driver_bibliography.proofs.lists.count_before.Given as goal

abbrev pub invariant-loop-count : goal.invariant-loop-count
invariant-loop-count l = record {
  within : l.count ≤ length l.parts;
  leading : Leading l.parts l.count;
  others : has_single_names (children_view (drop l.count l.parts)) ≡ has_single_names (children_view l.parts);
}

abbrev pub decreases-loop-count : goal.decreases-loop-count
decreases-loop-count l = length l.parts - l.count
