use Rattle.std.proofs.Common.{ap, ◌∙◌}
use Rattle.driver_requests.specs.History.{cited_by_note, uncited}
use Rattle.driver_requests.proofs.HistorySteps.{note_written}
use Rattle.driver_requests.proofs.history.note_cite.Goals as goal

pub returns : goal.returns
returns c = λ q. note_written c.args.histories.now uncited c.noted-history.result c.args.index c.args.number c.args.entry q c.requires (c.noted-history.ensures ∙ ap (cited_by_note c.args.index c.args.number) c.history_at.ensures)
