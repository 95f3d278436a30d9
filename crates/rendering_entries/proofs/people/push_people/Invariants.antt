use Rattle.std.proofs.Common.{◌≡◌, ◌++◌, map, take}
use Rattle.literature_values.specs.PersonViews.{person_view, lent_person_view}
use Rattle.rendering_entries.proofs.people.push_people.Given as goal

abbrev pub invariant-loop-person : goal.invariant-loop-person
invariant-loop-person l = map lent_person_view l.all.items ≡ map lent_person_view l.initial.all.items ++ map person_view (take l.person-index l.list)
