use Rattle.std.proofs.Common.{◌<◌, ◌+◌, ◌*◌, sym, ◌∙◌, arith}
use Rattle.std.proofs.lemmas.Result.{on_ok_weaker}
use Rattle.xml_tree.specs.Trees.{content_of}
use Rattle.xml_tree.specs.Views.{element_view, children_of}
use Rattle.csl_locales.specs.Called.{elements_of}
use Rattle.csl_locales.proofs.Weights.{weight, children_weight, children_lighter, child_lighter}
use Rattle.csl_features.proofs.Gathered.{gathered}
use Rattle.csl_features.proofs.walking.+walk.Goals as goal

pub push_elements-push_elements_in-requires : goal.push_elements-push_elements_in-requires
push_elements-push_elements_in-requires t c =
    let l : 2 * children_weight c.children_of.result.now + 1 < 2 * weight (element_view c.args.element.now) =
    children_lighter (element_view c.args.element.now) c.children_of.result.now c.children_of.ensures.0 c.children_of.ensures.1 in
    (omega (arith, l, c.decreases), tt)

pub push_elements_in-push_elements-requires : goal.push_elements_in-push_elements-requires
push_elements_in-push_elements-requires t c =
    let l : 2 * weight (element_view c.child-item.result.1) < 2 * children_weight c.args.children.now + 1 =
    child_lighter c.args.children.now c.loop-child.child-index c.child-item.result c.loop-child-test.true c.child-item.is in
    (omega (arith, l, c.decreases), tt)

pub push_elements-returns : goal.push_elements-returns
push_elements-returns t c =
    let tail = c.children_of.ensures.0 in
    on_ok_weaker c.push_elements_in.result
    (λ more. gathered (element_view c.args.element.now) (content_of (children_of c.children_of.result.now) tail) (elements_of c.args.found.now.items) (elements_of c.push_element.new.found.items)
    (elements_of c.push_elements_in.new.found.items) (sym c.is_passed.ensures ∙ c.if-is_passed.false) c.children_of.ensures.1 c.in_ok-push_element.ensures (more tail))
    c.push_elements_in.ensures
