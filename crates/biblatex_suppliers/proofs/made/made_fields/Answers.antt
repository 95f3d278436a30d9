use Rattle.std.proofs.Common.{Option, ap, ◌∙◌}
use Rattle.std.proofs.lemmas.Result.{IfOk-weaker}
use Rattle.biblatex_fields.specs.Fields.{value_named}
use Rattle.biblatex_suppliers.specs.Suppliers.{seen_by}
use Rattle.biblatex_suppliers.specs.declared.supplier.Supplies.{Supplies}
use Rattle.biblatex_suppliers.specs.Written.{written_view}
use Rattle.biblatex_suppliers.proofs.made.made_fields.Goals as goal

pub returns-in-Some : goal.returns-in-Some
returns-in-Some c =
    IfOk-weaker c.known_fields.result _ _ (λ f table q. table q ∙ ap (λ (o : Option Supplies). seen_by (written_view c.args.entries.now) c.args.number o q) c.in-Some.ensures) c.known_fields.ensures

pub returns-in-None : goal.returns-in-None
returns-in-None c = λ q. ap (value_named q) c.new.ensures ∙ ap (λ (o : Option Supplies). seen_by (written_view c.args.entries.now) c.args.number o q) c.in-None.ensures
