use Rattle.std.proofs.Common.{ap, ◌∙◌}
use Rattle.rendering_context.specs.Views.{context_view}
use Rattle.rendering_leaves.specs.Values.{using}
use Rattle.rendering_leaves.proofs.suppression.after_variable.Goals as goal

pub returns : goal.returns
returns c = λ a. c.remember_use.ensures a ∙ ap (using (context_view a c.args.context.now) c.args.variable) (c.in_ok-suppress_answered.ensures a)
