use Rattle.driver_order.proofs.RequestsSorted.{entries_stay}
use Rattle.driver_order.proofs.order_laws.entries_without_keys_stay.Goals as goal

pub returns : goal.returns
returns g c = λ x es none. entries_stay g.T.EntryLike.answers x es none
