use Rattle.std.proofs.Common.{◌≡◌, ◌++◌, map, take, drop}
use Rattle.std.specs.Prelude.{zip}
use Rattle.driver_names.specs.NamesViews.{members_view, shown_with}
use Rattle.driver_names.proofs.names_members.show_all.Given as goal

abbrev pub invariant-loop-index : goal.invariant-loop-index
invariant-loop-index l =
    members_view l.members
    ≡ map (λ p. shown_with l.nth p.0 p.1) (take l.index (zip l.distinctions (members_view l.fn.members))) ++ drop l.index (members_view l.fn.members)
