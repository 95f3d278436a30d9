use Rattle.std.proofs.Common.{◌≡◌, ◌+◌, ◌*◌, drop, map}
use Rattle.rendering_nodes.specs.Named.{has_suffix, has_suffix_in_branches}
use Rattle.rendering_style.specs.Nodes.{Nodes}
use Rattle.rendering_style.specs.Opening.{each_branch, each_node, open_node}
use Rattle.rendering_style.specs.StyleViews.{style_view}
use Rattle.rendering_style.specs.Views.{branch_view, branches_of, nodes_view}
use Rattle.rendering_nodes.proofs.suffix.+suffixes.Given as goal

abbrev pub decreases-has_suffix_in : goal.decreases-has_suffix_in
decreases-has_suffix_in l = 4 * l.levels

abbrev pub decreases-has_suffix_below : goal.decreases-has_suffix_below
decreases-has_suffix_below l = 4 * l.levels + 1

abbrev pub decreases-has_suffix_in_text : goal.decreases-has_suffix_in_text
decreases-has_suffix_in_text l = 4 * l.levels + 2

abbrev pub decreases-has_suffix_in_branches : goal.decreases-has_suffix_in_branches
decreases-has_suffix_in_branches l = 4 * l.levels + 2

abbrev pub invariant-has_suffix_below-loop-node : goal.invariant-has_suffix_below-loop-node
invariant-has_suffix_below-loop-node l =
    has_suffix (each_node (open_node l.levels (style_view l.style).macros) (nodes_view (drop l.node-index l.nodes)))
    ≡ has_suffix (each_node (open_node l.levels (style_view l.style).macros) (nodes_view l.nodes))

abbrev pub invariant-has_suffix_in_branches-loop-branch : goal.invariant-has_suffix_in_branches-loop-branch
invariant-has_suffix_in_branches-loop-branch l =
    (xs : Nodes) → has_suffix_in_branches (each_branch (open_node l.levels (style_view l.style).macros) (branches_of (map branch_view (drop l.branch-index l.branches)) xs))
    ≡ has_suffix_in_branches (each_branch (open_node l.levels (style_view l.style).macros) (branches_of (map branch_view l.branches) xs))
