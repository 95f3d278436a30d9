use Rattle.driver_blocks.proofs.RunsSteps.{pushed_last}
use Rattle.driver_blocks.proofs.runs.push_last.Goals as goal

pub returns-in_ok-push-in-Some : goal.returns-in_ok-push-in-Some
returns-in_ok-push-in-Some c = λ s.
    pushed_last s c.args.cites.now c.in-Some.inner.now c.args.all.now.items c.push_hidden.new.all.items c.push.new.self.items c.in-Some.last.now c.after_dash.result c.in-Some.ensures.cases.0
    (c.in_ok-push_hidden-in-Some.ensures s) (c.after_dash.ensures s) c.in_ok-push-in-Some.ensures.items
