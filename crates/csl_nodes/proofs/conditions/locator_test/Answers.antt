use Rattle.std.proofs.Common.{ap}
use Rattle.std.specs.Option.{option_map}
use Rattle.rendering_style.specs.Nodes.{has_locator}
use Rattle.csl_nodes.specs.Conditions.{locator_test}
use Rattle.csl_nodes.proofs.conditions.locator_test.Goals as goal

pub returns-in-Some : goal.returns-in-Some
unfolding locator_test
returns-in-Some c = ap (option_map has_locator) c.in-Some.ensures

pub returns-in-None : goal.returns-in-None
unfolding locator_test
returns-in-None c = ap (option_map has_locator) c.in-None.ensures
