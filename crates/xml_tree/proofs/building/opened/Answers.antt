use Rattle.xml_text.specs.Views.{name_view}
use Rattle.xml_tree.specs.Views.{said_view, children_of}
use Rattle.xml_tree.proofs.building.opened.Goals as goal

pub returns : goal.returns
returns c = λ i. record {
  left = c.args.left;
  written = name_view c.args.written;
  said = said_view c.args.said;
  before = children_of (c.new-before.ensures.items i);
  text = c.empty_text-text.ensures.characters i;
}
