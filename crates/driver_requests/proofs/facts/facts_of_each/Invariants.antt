use Rattle.std.proofs.Common.{◌≡◌, ◌++◌, drop}
use Rattle.driver_requests.specs.Notes.{notes_view}
use Rattle.driver_requests.specs.Indices.{runs}
use Rattle.driver_requests.specs.History.{facts_after}
use Rattle.driver_requests.specs.HistoryViews.{facts_by_request_view, history_at}
use Rattle.driver_requests.proofs.facts.facts_of_each.Given as goal

abbrev pub invariant-loop-index : goal.invariant-loop-index
invariant-loop-index g l =
    facts_by_request_view l.facts.items ++ facts_after l.index (history_at l.histories) (drop l.index (notes_view l.requests (runs l.indices)))
    ≡ facts_after 0 (history_at l.initial.histories) (notes_view l.requests (runs l.indices))
