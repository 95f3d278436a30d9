use Rattle.driver_laws.proofs.EntriesListed.{keys_order}
use Rattle.driver_laws.proofs.keys_are_the_order.Goals as goal

pub returns : goal.returns
returns g c = keys_order _
