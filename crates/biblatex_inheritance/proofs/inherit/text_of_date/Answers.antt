use Rattle.std.proofs.lemmas.Result.{IfOk-weaker}
use Rattle.biblatex_dates.specs.Written.{date_text}
use Rattle.biblatex_inheritance.proofs.ResolvedReferences.{spelled_out}
use Rattle.biblatex_inheritance.proofs.inherit.text_of_date.Goals as goal

pub returns : goal.returns
returns c = IfOk-weaker c.to_string.result _ _ (λ s e. spelled_out s (date_text c.args.date.now) e) c.to_string.ensures.ok
