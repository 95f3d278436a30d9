use Rattle.std.proofs.Common.{◌≡◌, ◌++◌}
use Rattle.driver_names.specs.Views.{given_states_view}
use Rattle.driver_disambiguation.proofs.round.append_given.Given as goal

abbrev pub invariant-loop-one : goal.invariant-loop-one
invariant-loop-one l = given_states_view l.given.items ≡ given_states_view l.initial.given.items ++ given_states_view l.yielded
