use Rattle.std.proofs.Common.{sym, ◌∙◌}
use Rattle.rendering_alike.specs.Naming.{names_view}
use Rattle.rendering_alike.proofs.NamesSteps.{next_people}
use Rattle.rendering_alike.proofs.names.add_people.Goals as goal

pub loop-variable-preserved : goal.loop-variable-preserved
loop-variable-preserved c =
    sym (next_people (names_view c.loop-variable.found) (names_view c.add_variable.new.found) c.args.people.now c.loop-variable.variable-index _ c.loop-variable-test.true c.in_ok-add_variable.ensures)
    ∙ c.loop-variable.invariant
