use Rattle.std.proofs.Common.{◌+◌, ◌*◌}
use Rattle.cases_rendering.proofs.printed.trees.+tree.Given as goal

abbrev pub decreases-children : goal.decreases-children
decreases-children l = 4 * l.depth

abbrev pub decreases-elem : goal.decreases-elem
decreases-elem l = 4 * l.depth + 1

abbrev pub decreases-child : goal.decreases-child
decreases-child l = 4 * l.depth + 2
