use Rattle.std.proofs.Common.{ap, ◌∙◌}
use Rattle.std.proofs.lemmas.Result.{IfOk-weaker}
use Rattle.biblatex_inheritance.specs.Resolved.{plain_in}
use Rattle.biblatex_suppliers.proofs.field_texts.seen_text.Goals as goal

pub returns-in-Some : goal.returns-in-Some
returns-in-Some c = IfOk-weaker c.supplied_text.result _ _ (λ s e. e ∙ ap plain_in c.in-Some.ensures) c.supplied_text.ensures

pub returns-in-None : goal.returns-in-None
returns-in-None c = c.empty_text.ensures.characters ∙ ap plain_in c.in-None.ensures
