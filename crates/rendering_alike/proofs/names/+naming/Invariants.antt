use Rattle.std.proofs.Common.{◌≡◌, ◌+◌, ◌*◌, drop, map}
use Rattle.rendering_nodes.specs.Named.{named, named_in_branches}
use Rattle.rendering_style.specs.Nodes.{Nodes}
use Rattle.rendering_style.specs.Opening.{each_branch, each_node, open_node}
use Rattle.rendering_style.specs.StyleViews.{style_view}
use Rattle.rendering_style.specs.Views.{branch_view, branches_of, nodes_view}
use Rattle.rendering_alike.specs.Naming.{names_view, with_named}
use Rattle.rendering_alike.proofs.names.+naming.Given as goal

abbrev pub decreases-add_node : goal.decreases-add_node
decreases-add_node l = 4 * l.levels

abbrev pub decreases-add_nodes : goal.decreases-add_nodes
decreases-add_nodes l = 4 * l.levels + 1

abbrev pub decreases-add_text : goal.decreases-add_text
decreases-add_text l = 4 * l.levels + 2

abbrev pub decreases-add_branch : goal.decreases-add_branch
decreases-add_branch l = 4 * l.levels + 2

abbrev pub decreases-add_branches : goal.decreases-add_branches
decreases-add_branches l = 4 * l.levels + 3

-- what was gathered, with what the nodes that are left name
abbrev pub invariant-add_nodes-loop-node : goal.invariant-add_nodes-loop-node
invariant-add_nodes-loop-node l =
    with_named (names_view l.found) (named (each_node (open_node l.levels (style_view l.style).macros) (nodes_view (drop l.node-index l.nodes))))
    ≡ with_named (names_view l.initial.found) (named (each_node (open_node l.levels (style_view l.style).macros) (nodes_view l.nodes)))

abbrev pub invariant-add_branches-loop-branch : goal.invariant-add_branches-loop-branch
invariant-add_branches-loop-branch l =
    (xs : Nodes) → with_named (names_view l.found) (named_in_branches (each_branch (open_node l.levels (style_view l.style).macros) (branches_of (map branch_view (drop l.branch-index l.branches)) xs)))
    ≡ with_named (names_view l.initial.found) (named_in_branches (each_branch (open_node l.levels (style_view l.style).macros) (branches_of (map branch_view l.branches) xs)))
