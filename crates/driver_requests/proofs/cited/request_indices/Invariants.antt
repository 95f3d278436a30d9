use Rattle.std.proofs.Common.{◌≡◌, List, map, take}
use Rattle.laws.specs.Borrowed.{borrowed}
use Rattle.driver_requests.specs.EntryKeys.{IsIndex, has_key}
use Rattle.driver_requests.specs.Indices.{grown, indices_in}
use Rattle.driver_requests.specs.Views.{entry_of_item}
use Rattle.driver_requests.proofs.cited.request_indices.Given as goal

abbrev pub invariant-loop-item : goal.invariant-loop-item
invariant-loop-item g l =
    IsIndex (has_key g.T.Hash.hash_input g.T.EntryLike.answers) l.table (borrowed l.entries.items)
    × (borrowed l.entries.items ≡ grown g.T.PartialEq.eq (borrowed l.initial.entries.items) (map entry_of_item (take l.item-index l.items)))
    × ((more : List g.row.T.Denot) → l.run.items ≡ indices_in g.T.PartialEq.eq (grown g.T.PartialEq.eq (borrowed l.entries.items) more) (map entry_of_item (take l.item-index l.items)))
