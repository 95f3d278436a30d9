use Rattle.std.proofs.Common.{◌≡◌, take}
use Rattle.driver_disambiguation.specs.Rounds as rounds
use Rattle.driver_requests.specs.SuffixViews.{origin_view}
use Rattle.driver_names.specs.Views.{given_states_view}
use Rattle.driver_disambiguation.proofs.year_suffixes.suffixes_for.Given as goal

abbrev pub invariant-loop-index : goal.invariant-loop-index
invariant-loop-index l = given_states_view l.given.items ≡ rounds.suffixes_for (origin_view l.origin) (take l.index l.entries)
