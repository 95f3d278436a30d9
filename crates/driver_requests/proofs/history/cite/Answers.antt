use Rattle.std.proofs.Common.{true, ap, ◌∙◌}
use Rattle.driver_requests.specs.History.{uncited}
use Rattle.driver_requests.proofs.HistorySteps.{cite_written, with_cited}
use Rattle.driver_requests.proofs.history.cite.Goals as goal

pub returns : goal.returns
returns c = λ q. cite_written c.args.histories.now uncited c.cited-history.result c.args.entry q c.requires (c.cited-history.ensures ∙ ap (λ s. with_cited s true) c.history_at.ensures)
