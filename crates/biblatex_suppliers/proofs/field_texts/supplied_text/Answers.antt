use Rattle.std.proofs.Common.{sym, ap, ◌∙◌}
use Rattle.std.proofs.lemmas.Result.{IfOk-weaker}
use Rattle.biblatex_content.specs.Styled.{plain}
use Rattle.biblatex_suppliers.specs.Suppliers.{supplied}
use Rattle.biblatex_suppliers.specs.declared.supplier.Supplier.{Supplier}
use Rattle.biblatex_suppliers.specs.Written.{written_view}
use Rattle.biblatex_suppliers.proofs.field_texts.supplied_text.Goals as goal

pub returns-in-Field : goal.returns-in-Field
returns-in-Field c = IfOk-weaker c.own_text.result _ _ (λ s e. e ∙ ap (λ (x : Supplier). plain (supplied (written_view c.args.entries.now) x).text) (sym c.in-Field.is)) c.own_text.ensures

pub returns-in-Date : goal.returns-in-Date
returns-in-Date c = IfOk-weaker c.date_text.result _ _ (λ s e. e ∙ ap (λ (x : Supplier). plain (supplied (written_view c.args.entries.now) x).text) (sym c.in-Date.is)) c.date_text.ensures
