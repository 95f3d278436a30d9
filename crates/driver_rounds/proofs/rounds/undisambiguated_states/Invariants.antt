use Rattle.std.proofs.Common.{◌≡◌, map}
use Rattle.rendering_context.specs.Views.{state_view}
use Rattle.driver_disambiguation.specs.States.{undisambiguated_states}
use Rattle.driver_rounds.proofs.rounds.undisambiguated_states.Given as goal

abbrev pub invariant-loop-entry : goal.invariant-loop-entry
invariant-loop-entry l = map state_view l.states.items ≡ undisambiguated_states l._entry
