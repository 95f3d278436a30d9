use Rattle.std.proofs.Common.{Option, ap, ◌∙◌}
use Rattle.std.proofs.lemmas.Result.{IfOk-weaker}
use Rattle.biblatex_content.specs.Styled.{plain}
use Rattle.biblatex_content.specs.Views.{styled}
use Rattle.biblatex_fields.specs.Value.{Value}
use Rattle.biblatex_inheritance.proofs.ResolvedReferences.{spelled_out}
use Rattle.biblatex_suppliers.specs.Suppliers.{or_nothing}
use Rattle.biblatex_suppliers.proofs.field_texts.own_text.Goals as goal

pub returns-in-Some : goal.returns-in-Some
returns-in-Some c =
    IfOk-weaker c.value_text.result _ _ (λ s e.
    spelled_out s (plain (styled c.as_slice.result.now)) e
    ∙ (ap (λ cs. plain (styled cs)) c.as_slice.ensures.value ∙ ap (λ (o : Option Value). plain (or_nothing o).text) c.in-Some.ensures)) c.value_text.ensures

pub returns-in-None : goal.returns-in-None
returns-in-None c = c.empty_text.ensures.characters ∙ ap (λ (o : Option Value). plain (or_nothing o).text) c.in-None.ensures
