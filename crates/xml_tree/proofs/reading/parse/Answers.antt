use Rattle.std.specs.Str.{chars}
use Rattle.xml_tree.specs.Views.{element_view}
use Rattle.xml_tree.proofs.Outcome.{found_is, only_this}
use Rattle.xml_tree.proofs.reading.parse.Goals as goal

pub returns-clause-found : goal.returns-clause-found
returns-clause-found c = found_is element_view c.read_text.result (chars c.args.text.now) c.read_text.ensures

pub returns-clause-only : goal.returns-clause-only
returns-clause-only c = λ e is. only_this element_view c.read_text.result (chars c.args.text.now) e c.read_text.ensures is
