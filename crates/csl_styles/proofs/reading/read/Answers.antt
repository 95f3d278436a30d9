use Rattle.xml_tree.specs.Views.{element_view}
use Rattle.csl_styles.proofs.reading.read.Goals as goal

pub returns-in-Ok-clause-exact : goal.returns-in-Ok-clause-exact
returns-in-Ok-clause-exact c = (element_view c.in-Ok._root, c.in-Ok.ensures.exact)
