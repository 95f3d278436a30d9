use Rattle.std.proofs.Common.{ap, ◌∙◌}
use Rattle.std.specs.Str.{chars}
use Rattle.xml_tree.proofs.Texts.{xml_address}
use Rattle.xml_tree.proofs.scope.xml_space.Goals as goal

pub returns : goal.returns
returns c = ap chars c.in_ok-space.ensures.ok ∙ xml_address
