use Rattle.std.proofs.Common.{◌≡◌, ◌++◌, length, drop, None}
use Rattle.std.specs.Prelude.{slice_index}
use Rattle.driver_requests.specs.Indices.{runs}
use Rattle.driver_rounds.specs.Numbering.{all_cites_view, entries_by_request, last_item, numbering_all}
use Rattle.driver_rounds.proofs.NumberedSteps.{runs_from}
use Rattle.driver_rounds.proofs.numbered.numbered.Given as goal

abbrev pub invariant-loop-index : goal.invariant-loop-index
invariant-loop-index g l = record {
  viewed : runs_from g.T.EntryLike.answers g.P.PartialEq.eq (λ p. slice_index l.numbers p) l.requests l.indices l.facts l.all.items l.index (last_item g.T.EntryLike.answers l.last)
      ≡ numbering_all g.P.PartialEq.eq (λ p. slice_index l.numbers p) None (all_cites_view g.T.EntryLike.answers l.requests l.indices l.facts);
  entries : entries_by_request l.all.items ++ runs (drop l.index l.indices) ≡ runs l.indices;
  long : length l.all.items ≡ l.index;
}
