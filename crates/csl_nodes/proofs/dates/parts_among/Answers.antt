use Rattle.std.proofs.Common.{refl}
use Rattle.rendering_locale.specs.Views.{part_view}
use Rattle.csl_nodes.specs.Dates.{date_part, date_parts}
use Rattle.csl_nodes.proofs.Meant.{means_on, means_all}
use Rattle.csl_nodes.proofs.dates.parts_among.Goals as goal

pub loop-child-preserved : goal.loop-child-preserved
loop-child-preserved c =
    means_on part_view date_part c.args.children.now c.loop-child.child-index c.child-item.result c.loop-child.parts.items c.push_if.new.values.items c.in_ok-part.part
    c.loop-child-test.true c.child-item.is c.loop-child.invariant c.in_ok-part.ensures c.in_ok-push_if.ensures

pub returns : goal.returns
returns c = λ t. means_all part_view date_parts date_part (λ t. refl) (λ t e c. refl) c.args.children.now t c.loop-child.child-index c.loop-child.parts.items c.loop-child-test.false c.loop-child.invariant
