use Rattle.std.proofs.Common.{map, drop}
use Rattle.rendering_context.specs.Views.{state_view}
use Rattle.driver_names.specs.Views.{given_view}
use Rattle.driver_disambiguation.proofs.JoiningStates.{Joins}
use Rattle.driver_disambiguation.proofs.states.update_states.Given as goal

abbrev pub invariant-loop-one : goal.invariant-loop-one
invariant-loop-one l = Joins state_view l.initial.states l.states l.is_given.items (map given_view l.given) (map given_view (drop l.one-index l.given))
