use Rattle.csl_laws.proofs.StylesAlike.{meanings_same}
use Rattle.csl_laws.proofs.trees_alike.alike_trees_mean_the_same.Goals as goal

pub returns : goal.returns
returns c = meanings_same
