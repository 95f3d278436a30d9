use Rattle.std.proofs.Common.{◌+◌, ◌*◌}
use Rattle.cases_literature.proofs.given_entries.+entry.Given as goal

abbrev pub decreases-entry_of : goal.decreases-entry_of
decreases-entry_of l = 2 * l.depth + 1

abbrev pub decreases-parents_of : goal.decreases-parents_of
decreases-parents_of l = 2 * l.depth
