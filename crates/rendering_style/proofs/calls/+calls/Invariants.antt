use Rattle.std.proofs.Common.{◌≡◌, ◌++◌, drop, map}
use Rattle.std.specs.List.{filter_map}
use Rattle.std.specs.BTreeMap.{get_by_text}
use Rattle.rendering_style.specs.Nodes.{Nodes}
use Rattle.rendering_style.specs.Opening.{calls, calls_of_branches}
use Rattle.rendering_style.specs.Views.{nodes_view, branch_view, branches_of}
use Rattle.rendering_style.proofs.calls.+calls.Given as goal

abbrev pub invariant-push_calls-loop-node : goal.invariant-push_calls-loop-node
invariant-push_calls-loop-node l =
    l.found.items ++ filter_map (get_by_text l.table) (calls (nodes_view (drop l.node-index l.nodes))) ≡ l.initial.found.items ++ filter_map (get_by_text l.table) (calls (nodes_view l.nodes))

abbrev pub invariant-push_calls_of_branches-loop-branch : goal.invariant-push_calls_of_branches-loop-branch
invariant-push_calls_of_branches-loop-branch l =
    (xs : Nodes) → l.found.items ++ filter_map (get_by_text l.table) (calls_of_branches (branches_of (map branch_view (drop l.branch-index l.branches)) xs))
    ≡ l.initial.found.items ++ filter_map (get_by_text l.table) (calls_of_branches (branches_of (map branch_view l.branches) xs))
