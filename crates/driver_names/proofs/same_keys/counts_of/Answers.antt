use Rattle.driver_names.specs.Keys.{counted}
use Rattle.driver_names.proofs.KeysAlike.{tally_step}
use Rattle.driver_names.proofs.same_keys.counts_of.Goals as goal

pub loop-key-preserved : goal.loop-key-preserved
loop-key-preserved g c = λ q.
    tally_step g.met.K.Eq.laws c.args.keys.now c.loop-key.key-index c.key-item.result q (counted g.K.PartialEq.eq c.loop-key.counts q) (counted g.K.PartialEq.eq c.count_one.new.counts q) c.loop-key-test.true c.key-item.is
    (c.loop-key.invariant q) (c.in_ok-count_one.ensures q)
