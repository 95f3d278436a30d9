use Rattle.std.proofs.Common.{◌≡◌, List, [], map, take}
use Rattle.std.specs.Prelude.{flat_map}
use Rattle.laws.specs.Borrowed.{borrowed}
use Rattle.driver_requests.specs.EntryKeys.{IsIndex, has_key}
use Rattle.driver_requests.specs.Indices.{grown, indices_in, runs}
use Rattle.driver_requests.specs.Views.{entries_of}
use Rattle.driver_requests.proofs.cited.Cited.new.Given as goal

abbrev pub invariant-loop-request : goal.invariant-loop-request
invariant-loop-request g l =
    IsIndex (has_key g.T.Hash.hash_input g.T.EntryLike.answers) l.table (borrowed l.entries.items)
    × (borrowed l.entries.items ≡ grown g.T.PartialEq.eq [] (flat_map entries_of (take l.request-index l.requests)))
    × ((more : List g.row.T.Denot) → runs l.runs.items ≡ map (λ r. indices_in g.T.PartialEq.eq (grown g.T.PartialEq.eq (borrowed l.entries.items) more) (entries_of r)) (take l.request-index l.requests))
