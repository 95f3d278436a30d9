use Rattle.std.proofs.Common.{sym}
use Rattle.driver_rounds.proofs.NamingSteps.{naming_none, naming_some}
use Rattle.driver_rounds.proofs.first_names.first_naming.Goals as goal

pub returns-in-Some : goal.returns-in-Some
returns-in-Some g c = naming_some g.T.EntryLike.answers c.args.requests.now c.in-Some.request.now c.naming_of.result (sym c.in-Some.ensures.value) c.naming_of.ensures

pub returns-in-None : goal.returns-in-None
returns-in-None g c = naming_none g.T.EntryLike.answers c.args.requests.now (sym c.in-None.ensures.value)
