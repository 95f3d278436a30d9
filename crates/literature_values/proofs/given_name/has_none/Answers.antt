use Rattle.std.proofs.Common.{sym, ap}
use Rattle.literature_values.specs.GivenNames.{are_none}
use Rattle.literature_values.proofs.given_name.has_none.Goals as goal

pub returns-in-Some : goal.returns-in-Some
returns-in-Some c = sym (ap are_none c.in-Some.ensures.steps)

pub returns-in-None : goal.returns-in-None
returns-in-None c = sym (ap are_none c.in-None.ensures.steps.0)
