use Rattle.std.proofs.Common.{sym, ap, ◌∙◌}
use Rattle.rendering_context.specs.Views.{context_view}
use Rattle.rendering_leaves.specs.Values.{label_term}
use Rattle.rendering_taxonomy.specs.declared.variable.NumberVariable.{NumberVariable}
use Rattle.rendering_taxonomy.specs.declared.variable.Variable.TheVariants as variables
use Rattle.rendering_leaves.proofs.label.number_term.Goals as goal

pub returns-in-Locator : goal.returns-in-Locator
returns-in-Locator c = λ a.
    c.locator_term.ensures a ∙ ap (λ (n : NumberVariable). label_term (context_view a c.args.context.now) (variables.Number n)) (sym c.in-Locator.is)
