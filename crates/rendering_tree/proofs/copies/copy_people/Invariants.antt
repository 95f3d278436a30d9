use Rattle.std.proofs.Common.{◌≡◌, map, take}
use Rattle.literature_values.specs.PersonViews.{person_view}
use Rattle.rendering_tree.proofs.copies.copy_people.Given as goal

abbrev pub invariant-loop-one : goal.invariant-loop-one
invariant-loop-one l = map person_view l.copies.items ≡ map person_view (take l.one-index l.people.items)
