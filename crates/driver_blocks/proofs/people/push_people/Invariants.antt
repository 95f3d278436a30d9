use Rattle.std.proofs.Common.{◌≡◌, ◌++◌, map, drop}
use Rattle.std.specs.List.{flat_map}
use Rattle.laws.specs.Text.{characters}
use Rattle.literature_values.specs.PersonViews.{person_view}
use Rattle.driver_blocks.specs.Shown.{name_text}
use Rattle.driver_blocks.proofs.people.push_people.Given as goal

abbrev pub invariant-loop-person : goal.invariant-loop-person
invariant-loop-person l =
    characters l.text ++ flat_map name_text (map person_view (drop l.person-index l.people)) ≡ characters l.fn.text ++ flat_map name_text (map person_view l.people)
