use Rattle.std.proofs.Common.{◌≡◌, ◌+◌, ◌≤◌, ◌++◌, map, take, drop, length}
use Rattle.rendering_context.specs.Views.{state_view}
use Rattle.driver_disambiguation.specs.CitesViews.{printed_cites_view}
use Rattle.driver_rounds.specs.Rounding.{are_again}
use Rattle.driver_rounds.specs.FirstPrints.{flattened}
use Rattle.driver_rounds.specs.Views.{all_numbered_cites_view}
use Rattle.driver_rounds.proofs.rounds.print_again.Given as goal

abbrev pub invariant-loop-index : goal.invariant-loop-index
invariant-loop-index g l = record {
  printed : take l.start (printed_cites_view l.printed) ++ are_again (map state_view l.states) l.is_given (flattened (all_numbered_cites_view g.T.EntryLike.answers (drop l.index l.cites.requests.now) (drop l.index l.cites.runs.now))) (drop l.start (printed_cites_view l.printed))
      ≡ are_again (map state_view l.states) l.is_given (flattened (all_numbered_cites_view g.T.EntryLike.answers l.cites.requests.now l.cites.runs.now)) (printed_cites_view l.fn.printed);
  many : l.start + length (flattened (all_numbered_cites_view g.T.EntryLike.answers (drop l.index l.cites.requests.now) (drop l.index l.cites.runs.now))) ≡ length (printed_cites_view l.printed);
  effort : l.effort + length (flattened (all_numbered_cites_view g.T.EntryLike.answers (drop l.index l.cites.requests.now) (drop l.index l.cites.runs.now))) ≤ l.fn.effort + length (flattened (all_numbered_cites_view g.T.EntryLike.answers l.cites.requests.now l.cites.runs.now));
}
