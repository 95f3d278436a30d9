use Rattle.std.proofs.Common.{◌+◌, ◌*◌}
use Rattle.cases_rendering.proofs.printed.pages.+page.Given as goal

abbrev pub decreases-put_all : goal.decreases-put_all
decreases-put_all l = 4 * l.depth

abbrev pub decreases-put_elem : goal.decreases-put_elem
decreases-put_elem l = 4 * l.depth + 1

abbrev pub decreases-put : goal.decreases-put
decreases-put l = 4 * l.depth + 2
