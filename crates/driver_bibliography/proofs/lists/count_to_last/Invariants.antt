use Rattle.std.proofs.Common.{◌≤◌, length}
use Rattle.driver_bibliography.proofs.ListsReplaced.{Trailing}
use Rattle.driver_bibliography.proofs.lists.count_to_last.Given as goal

abbrev pub invariant-loop-count : goal.invariant-loop-count
invariant-loop-count l = (l.count ≤ length l.parts) × Trailing l.parts l.count

abbrev pub decreases-loop-count : goal.decreases-loop-count
decreases-loop-count l = l.count
