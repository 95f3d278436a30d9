use Rattle.std.proofs.Common.{◌<◌, ◌+◌, ◌*◌, arith}
use Rattle.xml_tree.specs.Views.{element_view}
use Rattle.csl_locales.proofs.Weights.{weight, children_weight, children_lighter, child_lighter}
use Rattle.csl_styles.proofs.faults.+calls.Goals as goal

pub first_call-first_call_in-requires : goal.first_call-first_call_in-requires
first_call-first_call_in-requires t c =
    let l : 2 * children_weight c.children_of.result.now + 1 < 2 * weight (element_view c.args.element.now) =
    children_lighter (element_view c.args.element.now) c.children_of.result.now c.children_of.ensures.0 c.children_of.ensures.1 in
    (omega (arith, l, c.decreases), tt)

pub first_call_in-first_call-requires : goal.first_call_in-first_call-requires
first_call_in-first_call-requires t c =
    let l : 2 * weight (element_view c.child-item.result.1) < 2 * children_weight c.args.children.now + 1 =
    child_lighter c.args.children.now c.loop-child.child-index c.child-item.result c.loop-child-test.true c.child-item.is in
    (omega (arith, l, c.decreases), tt)
