use Rattle.std.proofs.Common.{rules}
use Rattle.xml_tree.proofs.Stacks.{opens_counted}
use Rattle.xml_tree.proofs.building.Builder.has_room.Goals as goal

pub returns : goal.returns
returns c = rw (opens_counted c.args.self.now.open_ones) (search rules)
