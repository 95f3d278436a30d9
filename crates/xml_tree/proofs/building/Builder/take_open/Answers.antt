use Rattle.xml_tree.proofs.Stacks.{popped}
use Rattle.xml_tree.proofs.building.Builder.take_open.Goals as goal

pub returns : goal.returns
returns c = popped c.args.self.now c.pop.new.self c.pop.result c.pop.ensures.items c.pop.ensures.cases
