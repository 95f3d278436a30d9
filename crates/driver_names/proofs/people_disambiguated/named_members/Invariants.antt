use Rattle.std.proofs.Common.{◌≡◌, ◌++◌, map, drop}
use Rattle.std.specs.List.{enumerate_from}
use Rattle.driver_names.specs.FirstNames.{named_member}
use Rattle.driver_names.specs.NamesViews.{members_view}
use Rattle.driver_names.specs.Views.{printed_view}
use Rattle.driver_names.proofs.people_disambiguated.named_members.Given as goal

abbrev pub invariant-loop-nth : goal.invariant-loop-nth
invariant-loop-nth l =
    members_view l.members.items ++ map (named_member l.rule) (enumerate_from l.nth (map printed_view (drop l.nth l.cites))) ≡ map (named_member l.rule) (enumerate_from 0 (map printed_view l.cites))
