use Rattle.std.proofs.Common.{◌∙◌}
use Rattle.rendering_context.proofs.VariablesIndices.{same_variable}
use Rattle.rendering_leaves.proofs.suppressed.is_variable.Goals as goal

pub returns : goal.returns
returns c = c.eq.ensures ∙ same_variable c.args.variable c.args.other
