use Rattle.std.proofs.Common.{◌≡◌, map, take}
use Rattle.literature_values.specs.PersonViews.{person_view, lent_person_view}
use Rattle.rendering_people.proofs.people.copied_people.Given as goal

abbrev pub invariant-loop-person : goal.invariant-loop-person
invariant-loop-person l = map person_view l.copies.items ≡ map lent_person_view (take l.person-index l.people)
