use Rattle.std.proofs.Common.{map, drop}
use Rattle.driver_disambiguation.specs.Gathered.{AreEntriesOf}
use Rattle.driver_names.specs.Views.{class_view, given_states_view}
use Rattle.driver_disambiguation.proofs.Gathering.{Gathers}
use Rattle.driver_disambiguation.proofs.round.given_to_classes.Given as goal

abbrev pub invariant-loop-class : goal.invariant-loop-class
invariant-loop-class l =
    AreEntriesOf l.entries (given_states_view l.given.items)
    × Gathers l.adds_names l.has_dates l.round (map (λ c. class_view c.items) l.classes) l.class (map (λ c. class_view c.items) (drop l.class l.classes)) (given_states_view l.given.items)
