use Rattle.std.proofs.Common.{rules}
use Rattle.std.specs.Prelude.{length}
use Rattle.driver_requests.proofs.OrderPut.{put_next}
use Rattle.driver_requests.proofs.order.put_rest.Goals as goal

pub loop-index-preserved : goal.loop-index-preserved
loop-index-preserved c = (
  put_next (length c.loop-index.stands) (length c.args.stands.now) c.args.order.now.items c.loop-index.order.items c.put_last.new.order.items c.loop-index.index (search rules) c.in_ok-put_last.ensures.order c.loop-index.invariant.0,
  c.in_ok-put_last.ensures.stands,
)
