use Rattle.std.proofs.Common.{◌≡◌, map, take}
use Rattle.driver_names.specs.NamesViews.{distinction, members_view}
use Rattle.driver_names.proofs.names_members.distinctions.Given as goal

abbrev pub invariant-loop-at : goal.invariant-loop-at
invariant-loop-at l = l.distinctions.items ≡ map (distinction (members_view l.members) l.nth) (members_view (take l.at l.members))
