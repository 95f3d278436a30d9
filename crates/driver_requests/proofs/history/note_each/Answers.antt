use Rattle.std.proofs.Common.{[], ◌∷◌, get_or, ap, ◌∙◌}
use Rattle.driver_requests.specs.History.{noted_in}
use Rattle.driver_requests.specs.HistoryViews.{history_at}
use Rattle.driver_requests.proofs.HistorySteps.{noted_more}
use Rattle.driver_requests.proofs.history.note_each.Goals as goal

pub loop-entry-preserved : goal.loop-entry-preserved
loop-entry-preserved c = λ q.
    c.note_cite.ensures q
    ∙ ap (noted_in c.args.index c.args.number (get_or c.args.entries.now c.loop-entry.entry-index 0 ∷ []) q) (c.loop-entry.invariant q)
    ∙ noted_more c.args.index c.args.number c.args.entries.now c.loop-entry.entry-index q (history_at c.args.histories.now q) c.loop-entry-test.true
