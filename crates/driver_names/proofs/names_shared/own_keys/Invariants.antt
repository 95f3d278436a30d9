use Rattle.std.proofs.Common.{◌≡◌, take}
use Rattle.std.specs.List.{flat_map, zip}
use Rattle.driver_names.specs.NamesViews.{members_view}
use Rattle.driver_names.specs.Shared.{own_key}
use Rattle.driver_names.proofs.names_shared.own_keys.Given as goal

abbrev pub invariant-loop-at : goal.invariant-loop-at
invariant-loop-at l = l.keys.items ≡ flat_map (λ p. own_key p.0 p.1) (take l.at (zip l.groups (members_view l.members)))
