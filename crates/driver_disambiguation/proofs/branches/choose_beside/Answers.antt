use Rattle.driver_disambiguation.specs.Rounds.{choose_beside}
use Rattle.driver_requests.specs.SuffixViews.{origin_view}
use Rattle.driver_names.specs.Views.{printed_view}
use Rattle.driver_disambiguation.proofs.Lists.{flat_step_at}
use Rattle.driver_disambiguation.proofs.branches.choose_beside.Goals as goal

pub loop-other-preserved : goal.loop-other-preserved
loop-other-preserved c =
    flat_step_at (choose_beside (origin_view c.args.origin) c.args.first) (λ s. printed_view s.now) c.args.others.now c.loop-other.other-index c.other-item.result _ _
    c.loop-other-test.true c.loop-other.invariant c.other-item.is c.in_ok-push_chosen.ensures
