use Rattle.std.specs.Prelude.{position}
use Rattle.laws.specs.Borrowed.{borrowed}
use Rattle.driver_requests.proofs.IndicesRead.{indices_step}
use Rattle.driver_requests.proofs.cited.Cited.indices.Goals as goal

pub loop-entry-preserved : goal.loop-entry-preserved
loop-entry-preserved g c =
    indices_step (λ e. position (g.T.PartialEq.eq e) (borrowed c.args.self.now.entries.items)) c.args.entries.now c.loop-entry.entry-index c.entry-item.result c.loop-entry-test.true c.entry-item.is c.loop-entry.indices.items c.push_known.new.indices.items c.index.result
    c.in_ok-push_known.ensures c.index.ensures c.loop-entry.invariant
