use Rattle.std.proofs.Common.{◌≡◌, ◌++◌, map, drop}
use Rattle.std.specs.List.{flat_map}
use Rattle.driver_names.specs.Namesakes.{scoped_parts, scoped_view}
use Rattle.driver_names.specs.NamesViews.{members_view}
use Rattle.driver_names.proofs.namesakes.names_by.Given as goal

abbrev pub invariant-loop-member : goal.invariant-loop-member
invariant-loop-member l =
    map scoped_view l.names.items ++ flat_map (scoped_parts l.part) (members_view (drop l.member-index l.members)) ≡ flat_map (scoped_parts l.part) (members_view l.members)
