use Rattle.std.proofs.Common.{◌+◌, ◌*◌}
use Rattle.cases_rendering.proofs.styles.nodes.+reading.Given as goal

abbrev pub decreases-nodes : goal.decreases-nodes
decreases-nodes l = 8 * l.depth

abbrev pub decreases-branch : goal.decreases-branch
decreases-branch l = 8 * l.depth + 1

abbrev pub decreases-branches : goal.decreases-branches
decreases-branches l = 8 * l.depth + 2

abbrev pub decreases-node : goal.decreases-node
decreases-node l = 8 * l.depth + 3
