use Rattle.std.proofs.Common.{◌≡◌, ◌++◌, map, drop}
use Rattle.laws.specs.Text.{characters}
use Rattle.rendering_tree.specs.Views.{answered_view}
use Rattle.driver_blocks.specs.Key.{names_in}
use Rattle.driver_blocks.proofs.people.push_variables.Given as goal

abbrev pub invariant-loop-people : goal.invariant-loop-people
invariant-loop-people l =
    characters l.text ++ names_in (map answered_view (drop l.people-index l.variables)) ≡ characters l.fn.text ++ names_in (map answered_view l.variables)
