use Rattle.std.proofs.Common.{◌≡◌, ◌++◌, map, drop}
use Rattle.std.specs.List.{flat_map}
use Rattle.rendering_tree.specs.Views.{answered_view}
use Rattle.driver_names.proofs.names_people.push_answered.Given as goal

abbrev pub invariant-loop-answered : goal.invariant-loop-answered
invariant-loop-answered l = l.people.items ++ flat_map (λ a. a.0) (map answered_view (drop l.answered-index l.names)) ≡ l.fn.people.items ++ flat_map (λ a. a.0) (map answered_view l.names)
