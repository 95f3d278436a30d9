use Rattle.std.proofs.Common.{◌≡◌, ◌++◌, map, drop}
use Rattle.driver_disambiguation.specs.Rounds.{chosen}
use Rattle.driver_requests.specs.SuffixViews.{origin_view}
use Rattle.driver_names.specs.Views.{class_view, given_states_view}
use Rattle.driver_disambiguation.proofs.branches.choose_all.Given as goal

abbrev pub invariant-loop-cite : goal.invariant-loop-cite
invariant-loop-cite l =
    given_states_view l.given.items ++ map (chosen (origin_view l.origin)) (class_view (drop l.cite-index l.cites)) ≡ map (chosen (origin_view l.origin)) (class_view l.cites)
