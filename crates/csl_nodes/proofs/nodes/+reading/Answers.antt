use Rattle.std.proofs.Common.{◌≡◌, ◌<◌, map, Some, None, refl, sym, ap, ◌∙◌, arith}
use Rattle.std.proofs.lemmas.Result.{IfOk-weaker}
use Rattle.xml_tree.specs.Views.{element_view}
use Rattle.rendering_style.specs.Views.{node_view, branch_view}
use Rattle.csl_words.specs.Elements.{content_in}
use Rattle.csl_nodes.specs.Nodes.{node_of, nodes_in, branch_of, branches_in}
use Rattle.csl_nodes.specs.Views.{words_view}
use Rattle.csl_nodes.proofs.Meant.{means_on, means_all}
use Rattle.csl_nodes.proofs.Parts.{inside_is, under_found}
use Rattle.csl_nodes.proofs.Weights.{heft, child_lighter}
use Rattle.csl_nodes.proofs.nodes.+reading.Goals as goal

pub nodes_inside-loop-child-preserved : goal.nodes_inside-loop-child-preserved
nodes_inside-loop-child-preserved t c =
    means_on node_view (node_of (words_view c.args.unlisted.now)) c.children_of-children.result.now c.loop-child.child-index c.child-item.result c.loop-child.nodes.items c.push_if.new.values.items c.in_ok-node.node
    c.loop-child-test.true c.child-item.is c.loop-child.invariant c.in_ok-node.ensures c.in_ok-push_if.ensures

pub nodes_inside-returns : goal.nodes_inside-returns
nodes_inside-returns t c =
    let words = words_view c.args.unlisted.now in
    means_all node_view (nodes_in words) (node_of words) (λ t. refl) (λ t e c. refl) c.children_of-children.result.now c.children_of-children.ensures.0 c.loop-child.child-index c.loop-child.nodes.items
    c.loop-child-test.false c.loop-child.invariant
    ∙ sym (ap (nodes_in words) c.children_of-children.ensures.1)

pub branches_in-branch_of-requires : goal.branches_in-branch_of-requires
branches_in-branch_of-requires t c =
    let l : heft c.child-item.result.1 < heft c.args.element.now =
    child_lighter (element_view c.args.element.now) c.children_of-children.result.now c.children_of-children.ensures.0 c.loop-child.child-index c.child-item.result
    c.children_of-children.ensures.1 c.loop-child-test.true c.child-item.is in
    (omega (arith, l, c.decreases), tt)

pub branches_in-loop-child-preserved : goal.branches_in-loop-child-preserved
branches_in-loop-child-preserved t c =
    means_on branch_view (branch_of (words_view c.args.unlisted.now)) c.children_of-children.result.now c.loop-child.child-index c.child-item.result c.loop-child.branches.items c.push_if.new.values.items c.in_ok-branch.branch
    c.loop-child-test.true c.child-item.is c.loop-child.invariant c.in_ok-branch.ensures c.in_ok-push_if.ensures

pub branches_in-returns : goal.branches_in-returns
branches_in-returns t c =
    let words = words_view c.args.unlisted.now in
    means_all branch_view (branches_in words) (branch_of words) (λ t. refl) (λ t e c. refl) c.children_of-children.result.now c.children_of-children.ensures.0 c.loop-child.child-index c.loop-child.branches.items
    c.loop-child-test.false c.loop-child.invariant
    ∙ sym (ap (branches_in words) c.children_of-children.ensures.1)

pub nodes_under-returns-in-Some : goal.nodes_under-returns-in-Some
nodes_under-returns-in-Some t c =
    let words = words_view c.args.unlisted.now in
    IfOk-weaker c.nodes_inside.result _ _
    (λ v h. h
    ∙ (sym (inside_is words (element_view c.in-Some.found.now)) ∙ under_found words c.args.part.now (content_in (element_view c.args.element.now)) (Some (element_view c.in-Some.found.now)) c.in-Some.ensures))
    c.nodes_inside.ensures

pub nodes_under-returns-in-None : goal.nodes_under-returns-in-None
nodes_under-returns-in-None t c =
    ap (map node_view) c.new.ensures.items ∙ under_found (words_view c.args.unlisted.now) c.args.part.now (content_in (element_view c.args.element.now)) None c.in-None.ensures
