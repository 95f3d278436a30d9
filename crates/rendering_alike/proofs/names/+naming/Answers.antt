use Rattle.std.proofs.Common.{sym, ◌∙◌}
use Rattle.rendering_style.specs.Opening.{open_node}
use Rattle.rendering_style.specs.StyleViews.{style_view}
use Rattle.rendering_alike.specs.Naming.{names_view}
use Rattle.rendering_alike.proofs.NamesSteps.{next_branch, next_node}
use Rattle.rendering_alike.proofs.names.+naming.Goals as goal

pub add_nodes-loop-node-preserved : goal.add_nodes-loop-node-preserved
add_nodes-loop-node-preserved t c =
    sym (next_node (names_view c.loop-node.found) (names_view c.add_node.new.found) (open_node c.args.levels (style_view c.args.style.now).macros) c.args.nodes.now c.loop-node.node-index c.node-item.result c.loop-node-test.true c.node-item.is c.in_ok-add_node.ensures)
    ∙ c.loop-node.invariant

pub add_branches-loop-branch-preserved : goal.add_branches-loop-branch-preserved
add_branches-loop-branch-preserved t c = λ xs.
    sym (next_branch (names_view c.loop-branch.found) (names_view c.add_branch.new.found) (open_node c.args.levels (style_view c.args.style.now).macros) c.args.branches.now xs c.loop-branch.branch-index c.branch-item.result c.loop-branch-test.true c.branch-item.is c.in_ok-add_branch.ensures)
    ∙ c.loop-branch.invariant xs
