use Rattle.std.proofs.Common.{◌+◌, ◌*◌}
use Rattle.cases_literature.proofs.written_entries.+written.Given as goal

abbrev pub decreases-put_entry : goal.decreases-put_entry
decreases-put_entry l = 2 * l.depth + 1

abbrev pub decreases-put_parents : goal.decreases-put_parents
decreases-put_parents l = 2 * l.depth
