use Rattle.std.proofs.Common.{sym, ◌∙◌}
use Rattle.rendering_alike.specs.Naming.{names_view}
use Rattle.rendering_alike.proofs.NamesSteps.{next_test}
use Rattle.rendering_alike.proofs.names.add_tests.Goals as goal

pub loop-test-preserved : goal.loop-test-preserved
loop-test-preserved c =
    sym (next_test (names_view c.loop-test.found) (names_view c.add_test.new.found) c.args.tests.now c.loop-test.test-index _ c.loop-test-test.true c.in_ok-add_test.ensures)
    ∙ c.loop-test.invariant
