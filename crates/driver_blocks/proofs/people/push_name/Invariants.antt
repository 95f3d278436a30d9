use Rattle.std.proofs.Common.{◌≡◌, ◌++◌, map, drop}
use Rattle.std.specs.List.{flat_map}
use Rattle.laws.specs.Text.{characters}
use Rattle.rendering_tree.specs.Views.{answered_view}
use Rattle.driver_blocks.specs.Shown.{name_at}
use Rattle.driver_blocks.proofs.people.push_name.Given as goal

abbrev pub invariant-loop-answered : goal.invariant-loop-answered
invariant-loop-answered l =
    characters l.text ++ flat_map (name_at l.variable l.index) (map answered_view (drop l.answered-index l.variables)) ≡ characters l.fn.text ++ flat_map (name_at l.variable l.index) (map answered_view l.variables)
