use Rattle.std.proofs.Common.{refl}
use Rattle.rendering_style.specs.Views.{part_change_view}
use Rattle.csl_nodes.specs.Dates.{part_change, part_changes}
use Rattle.csl_nodes.proofs.Meant.{means_on, means_all}
use Rattle.csl_nodes.proofs.dates.changes_among.Goals as goal

pub loop-child-preserved : goal.loop-child-preserved
loop-child-preserved c =
    means_on part_change_view part_change c.args.children.now c.loop-child.child-index c.child-item.result c.loop-child.changes.items c.push_if.new.values.items c.in_ok-change.change
    c.loop-child-test.true c.child-item.is c.loop-child.invariant c.in_ok-change.ensures c.in_ok-push_if.ensures

pub returns : goal.returns
returns c = λ t. means_all part_change_view part_changes part_change (λ t. refl) (λ t e c. refl) c.args.children.now t c.loop-child.child-index c.loop-child.changes.items c.loop-child-test.false c.loop-child.invariant
