use Rattle.std.proofs.Common.{sym, ap, ◌∙◌}
use Rattle.rendering_context.specs.Views.{context_view}
use Rattle.rendering_leaves.specs.Values.{label_term}
use Rattle.rendering_leaves.proofs.label.label_term.Goals as goal

pub returns-in-Number : goal.returns-in-Number
returns-in-Number c = λ a. c.number_term.ensures a ∙ ap (label_term (context_view a c.args.context.now)) (sym c.in-Number.is)
