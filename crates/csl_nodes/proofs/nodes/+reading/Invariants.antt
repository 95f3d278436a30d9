use Rattle.std.proofs.Common.{◌≡◌, ◌+◌, ◌*◌, map, take}
use Rattle.std.specs.List.{filter_map}
use Rattle.rendering_style.specs.Views.{node_view, branch_view}
use Rattle.csl_nodes.specs.Nodes.{node_of, branch_of}
use Rattle.csl_nodes.specs.Views.{words_view}
use Rattle.csl_nodes.proofs.Meant.{of_child}
use Rattle.csl_nodes.proofs.Weights.{heft}
use Rattle.csl_nodes.proofs.nodes.+reading.Given as goal

abbrev pub invariant-nodes_inside-loop-child : goal.invariant-nodes_inside-loop-child
invariant-nodes_inside-loop-child l = map node_view l.nodes.items ≡ filter_map (of_child (node_of (words_view l.unlisted))) (take l.child-index l.children)

abbrev pub invariant-branches_in-loop-child : goal.invariant-branches_in-loop-child
invariant-branches_in-loop-child l = map branch_view l.branches.items ≡ filter_map (of_child (branch_of (words_view l.unlisted))) (take l.child-index l.children)

abbrev pub decreases-nodes_inside : goal.decreases-nodes_inside
decreases-nodes_inside l = 8 * heft l.element.now

abbrev pub decreases-branch_of : goal.decreases-branch_of
decreases-branch_of l = 8 * heft l.element.now + 1

abbrev pub decreases-branches_in : goal.decreases-branches_in
decreases-branches_in l = 8 * heft l.element.now + 2

abbrev pub decreases-nodes_under : goal.decreases-nodes_under
decreases-nodes_under l = 8 * heft l.element.now + 2

abbrev pub decreases-names_whole : goal.decreases-names_whole
decreases-names_whole l = 8 * heft l.element.now + 3

abbrev pub decreases-choose_whole : goal.decreases-choose_whole
decreases-choose_whole l = 8 * heft l.element.now + 3

abbrev pub decreases-group_whole : goal.decreases-group_whole
decreases-group_whole l = 8 * heft l.element.now + 3

abbrev pub decreases-node_of : goal.decreases-node_of
decreases-node_of l = 8 * heft l.element.now + 4
