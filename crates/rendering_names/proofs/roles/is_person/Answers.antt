use Rattle.std.proofs.Common.{◌∙◌}
use Rattle.rendering_names.proofs.RolesSteps.{same_person}
use Rattle.rendering_names.proofs.roles.is_person.Goals as goal

pub returns : goal.returns
returns c = c.eq.ensures ∙ same_person c.args.person.now c.args.other.now
