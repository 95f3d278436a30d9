use Rattle.std.proofs.Common.{◌≡◌, map, take}
use Rattle.std.specs.List.{zip}
use Rattle.driver_names.specs.NamesViews.{members_view}
use Rattle.driver_names.specs.Shared.{key_at, key_view}
use Rattle.driver_names.proofs.names_shared.keys.Given as goal

abbrev pub invariant-loop-at : goal.invariant-loop-at
invariant-loop-at l = map key_view l.keys.items ≡ map (λ p. key_at l.rule l.index p.0 p.1) (take l.at (zip l.groups (members_view l.members)))
