use Rattle.std.proofs.Common.{◌≡◌, ◌-◌, map}
use Rattle.std.specs.Prelude.{fold}
use Rattle.std.specs.List.{range_with_len}
use Rattle.driver_names.specs.Names.{distinguished_by}
use Rattle.driver_names.specs.Namesakes.{SharePeopleBefore, forms_after}
use Rattle.driver_names.specs.NamesViews.{members_view}
use Rattle.driver_names.specs.Shared.{shared_people}
use Rattle.driver_names.proofs.names.distinguish.Given as goal

abbrev pub invariant-loop-index : goal.invariant-loop-index
invariant-loop-index l = record {
  folded : fold distinguished_by (members_view l.members.items) (range_with_len l.index (l.compared - l.index))
      ≡ fold distinguished_by (members_view l.fn.members.items) (range_with_len 0 l.compared);
  shared : l.shared ≡ map (shared_people l.compared (members_view l.members.items)) (members_view l.members.items);
  forms : l.forms ≡ forms_after l.compared (members_view l.members.items);
  share_before : SharePeopleBefore l.compared l.index (members_view l.members.items);
}
