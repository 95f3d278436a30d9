use Rattle.std.proofs.Common.{◌≡◌, take}
use Rattle.std.specs.List.{flat_map}
use Rattle.driver_disambiguation.specs.Rounds.{choose_beside}
use Rattle.driver_requests.specs.SuffixViews.{origin_view}
use Rattle.driver_names.specs.Views.{class_view, given_states_view}
use Rattle.driver_disambiguation.proofs.branches.choose_beside.Given as goal

abbrev pub invariant-loop-other : goal.invariant-loop-other
invariant-loop-other l = given_states_view l.given.items ≡ flat_map (choose_beside (origin_view l.origin) l.first) (class_view (take l.other-index l.others))
