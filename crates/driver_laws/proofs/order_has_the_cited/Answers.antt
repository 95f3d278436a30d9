use Rattle.driver_laws.proofs.EntriesOrdered.{order_has_the_cited}
use Rattle.driver_laws.proofs.order_has_the_cited.Goals as goal

pub returns : goal.returns
returns g c = order_has_the_cited _
