use Rattle.std.proofs.Common.{◌≡◌}
use Rattle.literature.specs.Left.{is_among, taken_indices}
use Rattle.literature.proofs.holding.is_taken.Given as goal

abbrev pub invariant-loop-next : goal.invariant-loop-next
invariant-loop-next l = is_among l.index (taken_indices l.next) ≡ is_among l.index (taken_indices l.taken)
