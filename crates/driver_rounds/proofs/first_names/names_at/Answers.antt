use Rattle.rendering_context.specs.Views.{lent_names}
use Rattle.driver_rounds.proofs.NamingSteps.{names_past, names_there}
use Rattle.driver_rounds.proofs.first_names.names_at.Goals as goal

pub returns-in-Some : goal.returns-in-Some
returns-in-Some c = names_there c.args.states.now c.args.entry c.in-Some.state.now (lent_names c.names_of.result) c.in-Some.ensures.lookup.3.0 c.in-Some.ensures.lookup.1 c.names_of.ensures

pub returns-in-None : goal.returns-in-None
returns-in-None c = names_past c.args.states.now c.args.entry c.in-None.ensures.lookup.3
