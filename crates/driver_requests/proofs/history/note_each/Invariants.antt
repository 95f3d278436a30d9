use Rattle.std.proofs.Common.{◌≡◌, ℕ, take}
use Rattle.driver_requests.specs.History.{noted_in}
use Rattle.driver_requests.specs.HistoryViews.{history_at}
use Rattle.driver_requests.proofs.history.note_each.Given as goal

abbrev pub invariant-loop-entry : goal.invariant-loop-entry
invariant-loop-entry l = (q : ℕ) → history_at l.histories q ≡ noted_in l.index l.number (take l.entry-index l.entries) q (history_at l.initial.histories q)
