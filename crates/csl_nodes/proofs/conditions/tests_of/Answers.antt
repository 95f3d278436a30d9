use Rattle.std.proofs.Common.{map}
use Rattle.rendering_style.specs.Views.{test_view}
use Rattle.xml_tree.specs.Views.{element_view}
use Rattle.csl_nodes.specs.Conditions.{tests_by}
use Rattle.csl_nodes.proofs.Rows.{rows_keep_on}
use Rattle.csl_nodes.proofs.conditions.tests_of.Goals as goal

pub loop-row-preserved : goal.loop-row-preserved
loop-row-preserved c =
    rows_keep_on (tests_by (element_view c.args.element.now)) c.args.rows.now c.loop-row.row-index _ (map test_view c.loop-row.tests.items) (map test_view c.push_asked.new.tests.items)
    c.loop-row-test.true c.loop-row.invariant c.in_ok-push_asked.ensures
