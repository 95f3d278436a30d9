use Rattle.std.proofs.Common.{◌≤◌}
use Rattle.std.specs.List.{position_or_len}
use Rattle.laws.specs.Borrowed.{borrowed}
use Rattle.driver_requests.proofs.cited.index_from.Given as goal

abbrev pub invariant-loop-index : goal.invariant-loop-index
invariant-loop-index g l = l.index ≤ position_or_len (g.T.PartialEq.eq l.entry) (borrowed l.entries)
