use Rattle.xml_tree.proofs.Elements.{element_rolled}
use Rattle.xml_tree.proofs.building.element_of.Goals as goal

pub returns : goal.returns
returns c =
    let o = c.args.inner in
    element_rolled (record { left = o.left; name = o.said.name; attributes = o.said.attributes; children = o.before; text = o.text })
