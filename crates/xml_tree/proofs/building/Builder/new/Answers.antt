use Rattle.std.proofs.Common.{List, None, ap}
use Rattle.xml_tree.specs.Building.{state}
use Rattle.xml_tree.specs.Views.{opens_of}
use Rattle.xml_tree.specs.declared.building.Open.{Open}
use Rattle.xml_tree.proofs.building.Builder.new.Goals as goal

pub returns : goal.returns
returns c = ap (λ (os : List Open). state (opens_of os) None) c.new-open_ones.ensures.items
