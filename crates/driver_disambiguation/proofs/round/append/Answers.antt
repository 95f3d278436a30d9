use Rattle.driver_disambiguation.proofs.Gathering.{appended_more}
use Rattle.driver_disambiguation.proofs.round.append.Goals as goal

pub loop-one-preserved : goal.loop-one-preserved
loop-one-preserved c = (appended_more _ c.loop-one.yielded _ _ _ c.loop-one.invariant.0 c.in_ok-push.ensures.given, c.in_ok-push.ensures.entries)
