use Rattle.std.proofs.Common.{refl}
use Rattle.driver_names.specs.Views.{printed_view}
use Rattle.driver_disambiguation.proofs.Lists.{filter_step_at}
use Rattle.driver_disambiguation.proofs.branches.asked.Goals as goal

pub loop-cite-preserved : goal.loop-cite-preserved
loop-cite-preserved c =
    filter_step_at (λ s. printed_view s.now) (λ s. s.met_disambiguate) c.args.class.now c.loop-cite.cite-index c.cite-item.result _ _ _ c.loop-cite-test.true
    c.loop-cite.invariant c.cite-item.is refl c.in_ok-push_where.ensures
