use Rattle.std.proofs.Common.{◌<◌, ◌≤◌, length, Vec, rules, refl, ap, ◌∙◌, arith}
use Rattle.std.specs.Global.{Global}
use Rattle.std.proofs.Math.Nat.{le_refl}
use Rattle.std.proofs.lemmas.List.{length-set}
use Rattle.std.proofs.lemmas.Result.{on_ok_weaker}
use Rattle.rendering_style.specs.Views.{branch_view, node_view}
use Rattle.rendering_style.specs.declared.node.Node.{Node, the_lemmas}
use Rattle.sorting_styles.specs.Nodes.{sorting_branch, sorting_node}
use Rattle.sorting_styles.proofs.Changed.{changed_all, changed_on, unvisited_on}
use Rattle.sorting_styles.proofs.Viewed.{branch_changed, choose_changed, group_changed, names_changed}
use Rattle.sorting_styles.proofs.nodes.+changing.Goals as goal

pub change_nodes-loop-node-preserved : goal.change_nodes-loop-node-preserved
change_nodes-loop-node-preserved t c =
    let xs = c.loop-node.nodes in
    let i = c.loop-node.node-index in
    let y = c.change_node.new.node in
    let less : i < length xs = omega (arith, c.loop-node-test.true, c.loop-node.invariant.0.0) in (
      (length-set xs i y ∙ c.loop-node.invariant.0.0, unvisited_on c.args.nodes.now xs i y c.loop-node.invariant.0.1),
      changed_on node_view sorting_node c.args.nodes.now xs i c.node-item.result y less c.loop-node.invariant.0.0
          (c.loop-node.invariant.0.1 i c.node-item.result (le_refl i)) c.in_ok-change_node.ensures c.loop-node.invariant.1,
    )

pub change_nodes-returns : goal.change_nodes-returns
change_nodes-returns t c =
    let all : length c.loop-node.nodes ≤ c.loop-node.node-index = omega (arith, c.loop-node-test.false, c.loop-node.invariant.0.0) in
    changed_all node_view sorting_node c.args.nodes.now c.loop-node.nodes c.loop-node.node-index all c.loop-node.invariant.0.0 c.loop-node.invariant.1

pub change_branches-loop-branch-preserved : goal.change_branches-loop-branch-preserved
change_branches-loop-branch-preserved t c =
    let xs = c.loop-branch.branches in
    let i = c.loop-branch.branch-index in
    let y = c.change_branch.new.branch in
    let less : i < length xs = omega (arith, c.loop-branch-test.true, c.loop-branch.invariant.0.0) in (
      (length-set xs i y ∙ c.loop-branch.invariant.0.0, unvisited_on c.args.branches.now xs i y c.loop-branch.invariant.0.1),
      changed_on branch_view sorting_branch c.args.branches.now xs i c.branch-item.result y less c.loop-branch.invariant.0.0
          (c.loop-branch.invariant.0.1 i c.branch-item.result (le_refl i)) c.in_ok-change_branch.ensures c.loop-branch.invariant.1,
    )

pub change_branches-returns : goal.change_branches-returns
change_branches-returns t c =
    let all : length c.loop-branch.branches ≤ c.loop-branch.branch-index = omega (arith, c.loop-branch-test.false, c.loop-branch.invariant.0.0) in
    changed_all branch_view sorting_branch c.args.branches.now c.loop-branch.branches c.loop-branch.branch-index all c.loop-branch.invariant.0.0 c.loop-branch.invariant.1

pub change_branch-returns : goal.change_branch-returns
change_branch-returns t c =
    on_ok_weaker c.change_nodes.result
    (branch_changed c.args.branch.now c.args.branch.now.children c.deref_mut.result.now c.change_nodes.new.nodes refl c.deref_mut.ensures.value c.change_nodes.auto.nodes)
    c.change_nodes.ensures

pub change_node-returns-in-Names : goal.change_node-returns-in-Names
change_node-returns-in-Names t c =
    on_ok_weaker c.change_nodes.result
    (names_changed c.args.node.now c.in-Names.names _ c.change_names.new.names c.in-Names.substitute _ c.deref_mut.result.now c.change_nodes.new.nodes c.in-Names.is
    c.in-Names.names-is c.in-Names.substitute-is c.change_names.ensures c.deref_mut.ensures.value c.change_nodes.auto.nodes)
    c.change_nodes.ensures

pub change_node-returns-in_ok-change_branches-in-Choose : goal.change_node-returns-in_ok-change_branches-in-Choose
change_node-returns-in_ok-change_branches-in-Choose t c =
    on_ok_weaker c.change_nodes-in-Choose.result
    (choose_changed c.args.node.now c.in-Choose.branches _ c.in-Choose.otherwise _ c.deref_mut-in-Choose.result.now c.change_branches.new.branches c.deref_mut-in-Choose-2.result.now
    c.change_nodes-in-Choose.new.nodes c.in-Choose.is c.in-Choose.branches-is c.in-Choose.otherwise-is c.deref_mut-in-Choose.ensures.value c.change_branches.auto.branches
    c.in_ok-change_branches-in-Choose.ensures c.deref_mut-in-Choose-2.ensures.value c.change_nodes-in-Choose.auto.nodes)
    c.change_nodes-in-Choose.ensures

pub change_node-returns-in-Group : goal.change_node-returns-in-Group
change_node-returns-in-Group t c =
    on_ok_weaker c.change_nodes-in-Group.result
    (group_changed c.args.node.now c.in-Group.field-0 c.in-Group.children c.deref_mut-in-Group.result.now c.change_nodes-in-Group.new.nodes c.in-Group.is
    (search (rules, the_lemmas, c.in-Group.is)) (c.deref_mut-in-Group.ensures.value ∙ ap (λ (v : Vec Node Global). v.items) c.in-Group.children-is) c.change_nodes-in-Group.auto.nodes)
    c.change_nodes-in-Group.ensures
