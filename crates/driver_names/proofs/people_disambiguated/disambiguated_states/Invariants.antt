use Rattle.std.proofs.Common.{◌≡◌, take}
use Rattle.std.specs.List.{flat_map}
use Rattle.driver_names.specs.FirstNames.{disambiguated_state}
use Rattle.driver_names.specs.Namesakes.{AreCounts, all_people}
use Rattle.driver_names.specs.NamesViews.{members_view}
use Rattle.driver_names.specs.Views.{given_states_view}
use Rattle.driver_names.proofs.people_disambiguated.disambiguated_states.Given as goal

abbrev pub invariant-loop-member : goal.invariant-loop-member
invariant-loop-member l = record {
  counts : AreCounts l.counts (members_view l.members);
  given : given_states_view l.given.items ≡ flat_map (disambiguated_state l.rule (all_people (members_view l.members))) (members_view (take l.member-index l.members));
}
