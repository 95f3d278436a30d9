use Rattle.std.proofs.Common.{◌≡◌, ◌++◌, length, map, drop}
use Rattle.std.specs.Prelude.{slice_index}
use Rattle.driver_requests.specs.Views.{context_of}
use Rattle.driver_rounds.specs.Numbering.{cites_view, entry_at, last_item, numbering}
use Rattle.driver_rounds.proofs.NumberedSteps.{run_from}
use Rattle.driver_rounds.proofs.numbered.numbered_request.Given as goal

abbrev pub invariant-loop-index : goal.invariant-loop-index
invariant-loop-index g l = record {
  viewed : run_from g.T.EntryLike.answers (context_of l.request) l.request.note_number g.P.PartialEq.eq (λ p. slice_index l.numbers p) l.request.items.items l.indices l.facts l.run.items l.index (last_item g.T.EntryLike.answers l.last)
      ≡ numbering g.P.PartialEq.eq (λ p. slice_index l.numbers p) (last_item g.T.EntryLike.answers l.before) (cites_view g.T.EntryLike.answers (context_of l.request) l.request.note_number 0 l.request.items.items l.indices l.facts);
  entries : map entry_at l.run.items ++ drop l.index l.indices ≡ l.indices;
  long : length l.run.items ≡ l.index;
}
