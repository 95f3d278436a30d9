use Rattle.std.proofs.Common.{◌≡◌}
use Rattle.std.specs.List.{flat_map}
use Rattle.driver_requests.specs.SuffixViews.{origin_view}
use Rattle.driver_names.specs.NamesViews.{state_of_member, members_view}
use Rattle.driver_names.specs.Views.{given_states_view}
use Rattle.driver_names.proofs.names_members.states.Given as goal

abbrev pub invariant-loop-member : goal.invariant-loop-member
invariant-loop-member l = given_states_view l.given.items ≡ flat_map (state_of_member (origin_view l.origin)) (members_view l.yielded)
