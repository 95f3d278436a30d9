use Rattle.std.proofs.Common.{ap}
use Rattle.std.specs.Option.{option_map}
use Rattle.rendering_taxonomy.specs.declared.term.Term.TheVariants as terms
use Rattle.csl_nodes.specs.Terms.{locator_term}
use Rattle.csl_nodes.proofs.terms.locator_term.Goals as goal

pub returns-in-Some : goal.returns-in-Some
unfolding locator_term
returns-in-Some c = ap (option_map terms.Locator) c.in-Some.ensures

pub returns-in-None : goal.returns-in-None
unfolding locator_term
returns-in-None c = ap (option_map terms.Locator) c.in-None.ensures
