use Rattle.std.proofs.Common.{arith}
use Rattle.biblatex.proofs.NamingOrder.{order_from_next}
use Rattle.biblatex.proofs.naming.is_in_order.Goals as goal

pub returns : goal.returns
returns c = order_from_next c.args.names.now (λ k d within. c.loop-place.invariant.1 k d (omega (arith, within, c.loop-place-test.false)))
