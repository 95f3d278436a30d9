use Rattle.std.proofs.Common.{ap}
use Rattle.std.specs.Option.{option_map}
use Rattle.rendering_taxonomy.specs.declared.variable.Variable.TheVariants as variables
use Rattle.csl_nodes.specs.Terms.{text_variable}
use Rattle.csl_nodes.proofs.terms.text_variable.Goals as goal

pub returns-in-Some : goal.returns-in-Some
unfolding text_variable
returns-in-Some c = ap (option_map variables.Standard) c.in-Some.ensures

pub returns-in-None : goal.returns-in-None
unfolding text_variable
returns-in-None c = ap (option_map variables.Standard) c.in-None.ensures
