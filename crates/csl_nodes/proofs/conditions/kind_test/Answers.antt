use Rattle.std.proofs.Common.{ap}
use Rattle.std.specs.Option.{option_map}
use Rattle.rendering_style.specs.Nodes.{is_of_kind}
use Rattle.csl_nodes.specs.Conditions.{kind_test}
use Rattle.csl_nodes.proofs.conditions.kind_test.Goals as goal

pub returns-in-Some : goal.returns-in-Some
unfolding kind_test
returns-in-Some c = ap (option_map is_of_kind) c.in-Some.ensures

pub returns-in-None : goal.returns-in-None
unfolding kind_test
returns-in-None c = ap (option_map is_of_kind) c.in-None.ensures
