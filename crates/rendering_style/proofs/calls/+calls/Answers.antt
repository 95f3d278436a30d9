use Rattle.std.proofs.Common.{sym, ap, ◌∙◌, ◌++◌}
use Rattle.std.specs.List.{filter_map}
use Rattle.std.specs.BTreeMap.{get_by_text}
use Rattle.rendering_style.specs.Opening.{calls}
use Rattle.rendering_style.specs.Views.{nodes_view}
use Rattle.rendering_style.proofs.ViewsSteps.{calls_next, branch_calls_next}
use Rattle.rendering_style.proofs.calls.+calls.Goals as goal

pub push_calls-loop-node-preserved : goal.push_calls-loop-node-preserved
push_calls-loop-node-preserved t c =
    sym (calls_next (get_by_text c.args.table.now) c.args.nodes.now c.loop-node.node-index c.node-item.result c.loop-node.found.items c.push_calls_in.new.found.items c.loop-node-test.true c.node-item.is c.in_ok-push_calls_in.ensures)
    ∙ c.loop-node.invariant

pub push_calls_of_branches-loop-branch-preserved : goal.push_calls_of_branches-loop-branch-preserved
push_calls_of_branches-loop-branch-preserved t c = λ xs.
    sym (branch_calls_next (get_by_text c.args.table.now) c.args.branches.now xs c.loop-branch.branch-index c.branch-item.result c.loop-branch.found.items c.push_calls.new.found.items c.loop-branch-test.true c.branch-item.is
    (c.in_ok-push_calls.ensures ∙ ap (λ ns. c.loop-branch.found.items ++ filter_map (get_by_text c.args.table.now) (calls (nodes_view ns))) c.deref.ensures.value))
    ∙ c.loop-branch.invariant xs
