use Rattle.std.proofs.Common.{◌≡◌, drop, map, min, max}
use Rattle.rendering_style.specs.Nodes.{Nodes}
use Rattle.rendering_style.specs.Levels.{levels, branch_levels}
use Rattle.rendering_style.specs.Tables.{height_of}
use Rattle.rendering_style.specs.Views.{nodes_view, branch_view, branches_of}
use Rattle.rendering_style.proofs.levels.+levels.Given as goal

abbrev pub invariant-levels-loop-node : goal.invariant-levels-loop-node
invariant-levels-loop-node l =
    max l.most (min (levels (height_of l.table l.heights) (nodes_view (drop l.node-index l.nodes))) l.room) ≡ min (levels (height_of l.table l.heights) (nodes_view l.nodes)) l.room

abbrev pub invariant-branch_levels-loop-branch : goal.invariant-branch_levels-loop-branch
invariant-branch_levels-loop-branch l =
    (xs : Nodes) → max l.most (min (branch_levels (height_of l.table l.heights) (branches_of (map branch_view (drop l.branch-index l.branches)) xs)) l.room)
    ≡ min (branch_levels (height_of l.table l.heights) (branches_of (map branch_view l.branches) xs)) l.room
