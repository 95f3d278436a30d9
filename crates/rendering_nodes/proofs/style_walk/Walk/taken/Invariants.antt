use Rattle.std.proofs.Common.{◌≡◌, drop, map}
use Rattle.rendering_nodes.specs.Taken.{taken, taken_after}
use Rattle.rendering_nodes.specs.Views.{walk_context}
use Rattle.rendering_style.specs.Views.{branch_view, branches_of, nodes_view}
use Rattle.rendering_nodes.proofs.style_walk.Walk.taken.Given as goal

abbrev pub invariant-loop-branch : goal.invariant-loop-branch
invariant-loop-branch g l =
    taken_after (walk_context (g.E.EntryLike.answers l.entry) l.self) l.met (branches_of (map branch_view (drop l.branch-index l.branches)) (nodes_view l.otherwise))
    ≡ taken (walk_context (g.E.EntryLike.answers l.entry) l.self) (branches_of (map branch_view l.branches) (nodes_view l.otherwise))
