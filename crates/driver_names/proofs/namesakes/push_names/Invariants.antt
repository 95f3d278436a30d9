use Rattle.std.proofs.Common.{◌≡◌, ◌++◌, map, drop}
use Rattle.driver_names.specs.Namesakes.{parts_within, scoped_view}
use Rattle.driver_names.proofs.namesakes.push_names.Given as goal

abbrev pub invariant-loop-person : goal.invariant-loop-person
invariant-loop-person l =
    map scoped_view l.names.items ++ parts_within l.part l.scope (drop l.person-index l.people) ≡ map scoped_view l.fn.names.items ++ parts_within l.part l.scope l.people
