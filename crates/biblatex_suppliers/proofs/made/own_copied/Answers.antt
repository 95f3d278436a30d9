use Rattle.std.proofs.Common.{ap, ◌∙◌}
use Rattle.std.proofs.lemmas.Result.{IfOk-weaker}
use Rattle.biblatex_fields.specs.Value.{field_value_view}
use Rattle.biblatex_suppliers.specs.Suppliers.{or_nothing}
use Rattle.biblatex_suppliers.proofs.made.own_copied.Goals as goal

pub returns-in-Some : goal.returns-in-Some
returns-in-Some c = IfOk-weaker c.copied_value.result _ _ (λ v e. e ∙ ap or_nothing c.in-Some.ensures) c.copied_value.ensures

pub returns-in-None : goal.returns-in-None
returns-in-None c = ap field_value_view c.new.ensures.items ∙ ap or_nothing c.in-None.ensures
