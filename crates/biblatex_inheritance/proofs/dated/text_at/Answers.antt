use Rattle.std.proofs.lemmas.Result.{IfOk-weaker}
use Rattle.biblatex_fields.specs.Fields.{value_named}
use Rattle.biblatex_inheritance.proofs.ResolvedDates.{text_is}
use Rattle.biblatex_inheritance.proofs.dated.text_at.Goals as goal

pub returns : goal.returns
returns c = IfOk-weaker c.field_text.result _ _ (λ s e. text_is s (value_named c.args.name.now c.args.fields.now) e) c.field_text.ensures
