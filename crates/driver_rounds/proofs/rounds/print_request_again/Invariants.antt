use Rattle.std.proofs.Common.{◌≡◌, ◌+◌, ◌≤◌, ◌++◌, map, take, drop, length}
use Rattle.rendering_context.specs.Views.{state_view}
use Rattle.driver_disambiguation.specs.CitesViews.{printed_cites_view}
use Rattle.driver_requests.specs.Views.{context_of}
use Rattle.driver_rounds.specs.Rounding.{are_again}
use Rattle.driver_rounds.specs.Views.{numbered_cites_view}
use Rattle.driver_rounds.proofs.rounds.print_request_again.Given as goal

abbrev pub invariant-loop-index : goal.invariant-loop-index
invariant-loop-index g l = record {
  printed : take (l.start + l.index) (printed_cites_view l.printed) ++ are_again (map state_view l.states) l.is_given (numbered_cites_view g.T.EntryLike.answers (context_of l.cites.request.now) (drop l.index l.cites.request.now.items.items) (drop l.index l.cites.run.now)) (drop (l.start + l.index) (printed_cites_view l.printed))
      ≡ take l.start (printed_cites_view l.fn.printed) ++ are_again (map state_view l.states) l.is_given (numbered_cites_view g.T.EntryLike.answers (context_of l.cites.request.now) l.cites.request.now.items.items l.cites.run.now) (drop l.start (printed_cites_view l.fn.printed));
  many : length (printed_cites_view l.printed) ≡ length (printed_cites_view l.fn.printed);
  effort : l.effort + length (numbered_cites_view g.T.EntryLike.answers (context_of l.cites.request.now) (drop l.index l.cites.request.now.items.items) (drop l.index l.cites.run.now)) ≤ l.fn.effort + length (numbered_cites_view g.T.EntryLike.answers (context_of l.cites.request.now) l.cites.request.now.items.items l.cites.run.now);
}
