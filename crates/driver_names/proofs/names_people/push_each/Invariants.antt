use Rattle.std.proofs.Common.{◌≡◌, ◌++◌, map, drop}
use Rattle.literature_values.specs.PersonViews.{person_view}
use Rattle.driver_names.proofs.names_people.push_each.Given as goal

abbrev pub invariant-loop-person : goal.invariant-loop-person
invariant-loop-person l = l.people.items ++ map person_view (drop l.person-index l.more) ≡ l.fn.people.items ++ map person_view l.more
