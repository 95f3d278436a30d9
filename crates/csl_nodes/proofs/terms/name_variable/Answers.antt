use Rattle.std.proofs.Common.{ap}
use Rattle.std.specs.Option.{option_map}
use Rattle.rendering_taxonomy.specs.declared.variable.Variable.TheVariants as variables
use Rattle.csl_nodes.specs.Terms.{name_variable}
use Rattle.csl_nodes.proofs.terms.name_variable.Goals as goal

pub returns-in-Some : goal.returns-in-Some
unfolding name_variable
returns-in-Some c = ap (option_map variables.Name) c.in-Some.ensures

pub returns-in-None : goal.returns-in-None
unfolding name_variable
returns-in-None c = ap (option_map variables.Name) c.in-None.ensures
