use Rattle.std.proofs.Common.{◌≡◌, ◌++◌, flat_map, map, take}
use Rattle.laws.specs.Text.{characters}
use Rattle.literature_values.specs.PersonViews.{lent_person_view}
use Rattle.rendering_sorting.specs.Values.{inverted}
use Rattle.rendering_sorting.proofs.names.push_people.Given as goal

abbrev pub invariant-loop-person : goal.invariant-loop-person
invariant-loop-person l = characters l.text ≡ characters l.fn.text ++ flat_map (inverted l.fn.goes_behind) (map lent_person_view (take l.person-index l.people))
