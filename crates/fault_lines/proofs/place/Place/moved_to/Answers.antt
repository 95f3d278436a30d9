use Rattle.std.proofs.Common.{[], arith}
use Rattle.fault_lines.proofs.place.Place.moved_to.Goals as goal

pub onward-requires-else-self-at-clause-before : goal.onward-requires-else-self-at-clause-before
onward-requires-else-self-at-clause-before c = let none = (c.beginning.ensures []).within in omega arith
