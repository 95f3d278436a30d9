use Rattle.std.proofs.Common.{sym, ap, ◌∙◌}
use Rattle.std.proofs.lemmas.Result.{IfOk-weaker}
use Rattle.biblatex_suppliers.specs.Suppliers.{supplied}
use Rattle.biblatex_suppliers.specs.Written.{written_view}
use Rattle.biblatex_suppliers.proofs.made.supplied_value.Goals as goal

pub returns-in-Field : goal.returns-in-Field
returns-in-Field c = IfOk-weaker c.own_copied.result _ _ (λ v e. e ∙ ap (supplied (written_view c.args.entries.now)) (sym c.in-Field.is)) c.own_copied.ensures

pub returns-in-Date : goal.returns-in-Date
returns-in-Date c = IfOk-weaker c.date_value.result _ _ (λ v e. e ∙ ap (supplied (written_view c.args.entries.now)) (sym c.in-Date.is)) c.date_value.ensures
