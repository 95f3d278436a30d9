use Rattle.std.proofs.Common.{◌≡◌, drop}
use Rattle.rendering_alike.specs.Naming.{names_view, people_named, with_named}
use Rattle.rendering_alike.proofs.names.add_people.Given as goal

abbrev pub invariant-loop-variable : goal.invariant-loop-variable
invariant-loop-variable l = with_named (names_view l.found) (people_named (drop l.variable-index l.people)) ≡ with_named (names_view l.initial.found) (people_named l.people)
