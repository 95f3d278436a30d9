use Rattle.driver_disambiguation.proofs.Gathering.{appended_more}
use Rattle.driver_disambiguation.proofs.round.append_given.Goals as goal

pub loop-one-preserved : goal.loop-one-preserved
loop-one-preserved c = appended_more _ c.loop-one.yielded _ _ _ c.loop-one.invariant c.in_ok-push_given.ensures
