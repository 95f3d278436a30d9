use Rattle.driver_order.proofs.RequestsSorted.{requests_stay}
use Rattle.driver_order.proofs.order_laws.requests_without_keys_stay.Goals as goal

pub returns : goal.returns
returns g c = λ s first rs none. requests_stay g.T.PartialEq.eq g.T.EntryLike.answers s first rs none
