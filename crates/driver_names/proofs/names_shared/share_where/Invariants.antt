use Rattle.std.proofs.Common.{◌≡◌, length}
use Rattle.driver_names.specs.NamesViews.{members_view}
use Rattle.driver_names.specs.Shared.{all_shared_where, groups_by}
use Rattle.driver_names.proofs.names_shared.share_where.Given as goal

abbrev pub invariant-loop-index : goal.invariant-loop-index
invariant-loop-index l = record {
  groups : l.groups.items ≡ groups_by l.rule (members_view l.members) l.index;
  shared : l.shared.items ≡ all_shared_where l.rule l.index (members_view l.members) l.fn.shared.items;
  len : length l.shared.items ≡ length l.fn.shared.items;
}
