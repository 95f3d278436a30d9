use Rattle.std.proofs.Common.{◌≡◌, ◌&&◌, map, nat_eq, take}
use Rattle.driver_names.specs.Keys.{IsTally}
use Rattle.driver_names.specs.Names.{rule_for}
use Rattle.driver_names.specs.NamesViews.{members_view}
use Rattle.driver_names.specs.Shared.{is_own_key, is_rule, own_keys, shares}
use Rattle.driver_names.proofs.names_shared.are_sharing.Given as goal

abbrev pub invariant-loop-at : goal.invariant-loop-at
invariant-loop-at l = record {
  sizes : IsTally nat_eq l.sizes l.groups;
  owns : IsTally is_own_key l.own_sizes (own_keys l.groups (members_view l.members));
  sharing : l.sharing.items ≡ map (λ m. is_rule (rule_for m) l.rule && shares l.rule (members_view l.members) m l.index) (members_view (take l.at l.members));
}
