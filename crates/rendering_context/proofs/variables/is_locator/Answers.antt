use Rattle.std.proofs.Common.{◌∙◌}
use Rattle.rendering_context.proofs.VariablesIndices.{same_label}
use Rattle.rendering_context.proofs.variables.is_locator.Goals as goal

pub returns : goal.returns
returns c = c.eq.ensures ∙ same_label c.args.label c.args.other
