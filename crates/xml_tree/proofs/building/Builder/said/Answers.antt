use Rattle.std.proofs.Common.{List, subst}
use Rattle.laws.specs.Results.{Gives}
use Rattle.xml_text.specs.Views.{tag_view}
use Rattle.xml_tree.specs.Building.{scope_of}
use Rattle.xml_tree.specs.Names.{said}
use Rattle.xml_tree.specs.Views.{refusal_of, said_view, opens_of}
use Rattle.xml_tree.specs.declared.building.Open.{Open}
use Rattle.xml_tree.proofs.building.Builder.said.Goals as goal

pub returns : goal.returns
returns c =
    subst (λ (os : List Open). Gives refusal_of said_view c.tag_said.result (said (scope_of (opens_of os)) c.args.left (tag_view c.args.tag.now))) c.as_slice.ensures.value c.tag_said.ensures
