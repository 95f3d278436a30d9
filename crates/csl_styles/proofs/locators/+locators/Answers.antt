use Rattle.std.proofs.Common.{◌<◌, ◌+◌, ◌*◌, sym, ap, ◌∙◌, arith}
use Rattle.xml_tree.specs.Views.{element_view}
use Rattle.csl_locales.proofs.Weights.{weight, children_weight, children_lighter, child_lighter}
use Rattle.csl_styles.specs.Locators.{asked_in}
use Rattle.csl_styles.proofs.Located.{asked_inside}
use Rattle.csl_styles.proofs.locators.+locators.Goals as goal

pub asks_locator-asked_in-requires : goal.asks_locator-asked_in-requires
asks_locator-asked_in-requires t c =
    let l : 2 * children_weight c.children_of.result.now + 1 < 2 * weight (element_view c.args.element.now) =
    children_lighter (element_view c.args.element.now) c.children_of.result.now c.children_of.ensures.0 c.children_of.ensures.1 in
    (omega (arith, l, c.decreases), tt)

pub asked_in-asks_locator-requires : goal.asked_in-asks_locator-requires
asked_in-asks_locator-requires t c =
    let l : 2 * weight (element_view c.child-item.result.1) < 2 * children_weight c.args.children.now + 1 =
    child_lighter c.args.children.now c.loop-child.child-index c.child-item.result c.loop-child-test.true c.child-item.is in
    (omega (arith, l, c.decreases), tt)

pub asks_locator-returns : goal.asks_locator-returns
asks_locator-returns t c =
    asked_inside (element_view c.args.element.now) c.asked_in.result (sym c.is_passed.ensures ∙ c.if-is_passed.false) (sym c.is_of_locator.ensures ∙ c.if-is_of_locator.false)
    (c.asked_in.ensures c.children_of.ensures.0 ∙ sym (ap asked_in c.children_of.ensures.1))
