use Rattle.std.proofs.Common.{◌≡◌, ◌++◌, map, drop}
use Rattle.std.specs.List.{enumerate_from}
use Rattle.driver_names.specs.Names.{member}
use Rattle.driver_names.specs.NamesViews.{members_view}
use Rattle.driver_names.specs.Views.{class_view}
use Rattle.driver_names.proofs.names_members.members.Given as goal

abbrev pub invariant-loop-nth : goal.invariant-loop-nth
invariant-loop-nth l = members_view l.members.items ++ map member (enumerate_from l.nth (class_view (drop l.nth l.class))) ≡ map member (enumerate_from 0 (class_view l.class))
