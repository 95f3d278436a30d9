use Rattle.std.proofs.Common.{◌≡◌, ◌+◌, ◌-◌, ◌≤◌, length, drop}
use Rattle.std.specs.List.{common_prefix_len}
use Rattle.driver_bibliography.specs.Substitution.{is_same_name}
use Rattle.driver_bibliography.specs.Views.{borrowed_elements_view}
use Rattle.driver_bibliography.proofs.repeats.common_len.Given as goal

abbrev pub invariant-loop-count : goal.invariant-loop-count
invariant-loop-count l = record {
  within : l.count ≤ length l.names;
  within_last : l.count ≤ length l.last;
  same : l.count + common_prefix_len (is_same_name l.alone) (drop l.count (borrowed_elements_view l.names)) (drop l.count (borrowed_elements_view l.last)) ≡ common_prefix_len (is_same_name l.alone) (borrowed_elements_view l.names) (borrowed_elements_view l.last);
}

abbrev pub decreases-loop-count : goal.decreases-loop-count
decreases-loop-count l = length l.names - l.count
