use Rattle.std.proofs.Common.{◌≡◌, drop}
use Rattle.std.specs.List.{list_any}
use Rattle.driver_names.specs.Namesakes.{is_raised_after}
use Rattle.driver_names.specs.NamesViews.{members_view}
use Rattle.driver_names.proofs.names_raised.are_raised.Given as goal

abbrev pub invariant-loop-at : goal.invariant-loop-at
invariant-loop-at l =
    list_any (is_raised_after l.most (members_view l.members)) (members_view (drop l.at l.members)) ≡ list_any (is_raised_after l.most (members_view l.members)) (members_view l.members)
