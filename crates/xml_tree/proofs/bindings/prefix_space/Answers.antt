use Rattle.xml_tree.proofs.Bound.{prefix_found}
use Rattle.xml_tree.proofs.bindings.prefix_space.Goals as goal

pub returns : goal.returns
returns c = prefix_found c.args.prefixes.now c.args.prefix c.get.result c.utf8.prefix c.get.ensures.value
