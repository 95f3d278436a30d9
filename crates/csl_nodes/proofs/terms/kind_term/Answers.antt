use Rattle.std.proofs.Common.{ap}
use Rattle.std.specs.Option.{option_map}
use Rattle.rendering_taxonomy.specs.declared.term.Term.TheVariants as terms
use Rattle.csl_nodes.specs.Terms.{kind_term}
use Rattle.csl_nodes.proofs.terms.kind_term.Goals as goal

pub returns-in-Some : goal.returns-in-Some
unfolding kind_term
returns-in-Some c = ap (option_map terms.Kind) c.in-Some.ensures

pub returns-in-None : goal.returns-in-None
unfolding kind_term
returns-in-None c = ap (option_map terms.Kind) c.in-None.ensures
