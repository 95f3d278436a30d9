use Rattle.std.proofs.Common.{◌∙◌}
use Rattle.rendering_names.proofs.RolesSteps.{same_variable}
use Rattle.rendering_names.proofs.roles.is_variable.Goals as goal

pub returns : goal.returns
returns c = c.eq.ensures ∙ same_variable c.args.variable c.args.other
