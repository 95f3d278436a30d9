use Rattle.std.proofs.Common.{◌≡◌, List, drop}
use Rattle.rendering_nodes.specs.Admission.{have_names_of}
use Rattle.rendering_nodes.specs.Views.{macros_of}
use Rattle.rendering_style.specs.Opening.{each_node, open_node}
use Rattle.rendering_style.specs.Views.{nodes_view}
use Rattle.rendering_style.specs.declared.node.Node.{Node}
use Rattle.rendering_nodes.proofs.style_walk.Walk.have_names_of.Given as goal

-- one of those that are left is names of the variable, or none, as of all
abbrev pub invariant-loop-node : goal.invariant-loop-node
invariant-loop-node l =
    let opened = λ (xs : List Node). each_node (open_node l.levels (macros_of l.self)) (nodes_view xs) in
    have_names_of l.variable (opened (drop l.node-index l.nodes)) ≡ have_names_of l.variable (opened l.nodes)
