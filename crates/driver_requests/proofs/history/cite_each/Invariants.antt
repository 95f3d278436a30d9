use Rattle.std.proofs.Common.{◌≡◌, ℕ, take, map}
use Rattle.std.specs.List.{enumerate_from}
use Rattle.driver_requests.specs.History.{cited_in, facts_from}
use Rattle.driver_requests.specs.HistoryViews.{facts_view, history_at}
use Rattle.driver_requests.proofs.history.cite_each.Given as goal

abbrev pub invariant-loop-entry : goal.invariant-loop-entry
invariant-loop-entry l =
    (map facts_view l.facts.items ≡ map (λ (p : ℕ × ℕ). facts_from l.note.index l.note.number l.note.distance (cited_in (take p.0 l.entries) p.1 (history_at l.initial.histories p.1))) (take l.entry-index (enumerate_from 0 l.entries)))
    × ((q : ℕ) → history_at l.histories q ≡ cited_in (take l.entry-index l.entries) q (history_at l.initial.histories q))
