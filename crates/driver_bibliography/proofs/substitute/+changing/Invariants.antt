use Rattle.std.specs.Str.{chars}
use Rattle.driver_bibliography.specs.Views.{children_for, repeated_view}
use Rattle.driver_bibliography.proofs.ChangedSteps.{Passing}
use Rattle.driver_bibliography.proofs.substitute.+changing.Given as goal

abbrev pub invariant-change_names-loop-part : goal.invariant-change_names-loop-part
invariant-change_names-loop-part l =
    goal.unvisited-change_names-loop-part l × Passing (children_for (chars l.text) (repeated_view l.repeated)) l.fn.parts l.parts l.part-index
