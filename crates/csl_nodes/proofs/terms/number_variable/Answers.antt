use Rattle.csl_nodes.specs.Terms.{number_variable}
use Rattle.csl_nodes.proofs.terms.number_variable.Goals as goal

pub returns : goal.returns
unfolding number_variable
returns c = c.in_table.ensures
