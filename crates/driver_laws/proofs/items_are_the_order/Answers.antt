use Rattle.driver_laws.proofs.EntriesListed.{items_order}
use Rattle.driver_laws.proofs.items_are_the_order.Goals as goal

pub returns : goal.returns
returns g c = items_order _
