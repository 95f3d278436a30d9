use Rattle.csl_nodes.specs.Terms.{date_term}
use Rattle.csl_nodes.proofs.terms.date_term.Goals as goal

pub returns : goal.returns
unfolding date_term
returns c = c.in_table.ensures
