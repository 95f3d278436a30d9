use Rattle.rendering_style.specs.Views.{branch_view, node_view}
use Rattle.sorting_styles.specs.Nodes.{sorting_branch, sorting_node}
use Rattle.sorting_styles.proofs.Changed.{AreChanged}
use Rattle.sorting_styles.proofs.nodes.+changing.Given as goal

abbrev pub invariant-change_nodes-loop-node : goal.invariant-change_nodes-loop-node
invariant-change_nodes-loop-node l = goal.unvisited-change_nodes-loop-node l × AreChanged node_view sorting_node l.fn.nodes l.nodes l.node-index

abbrev pub invariant-change_branches-loop-branch : goal.invariant-change_branches-loop-branch
invariant-change_branches-loop-branch l = goal.unvisited-change_branches-loop-branch l × AreChanged branch_view sorting_branch l.fn.branches l.branches l.branch-index
