use Rattle.driver_names.specs.Views.{printed_view}
use Rattle.driver_disambiguation.proofs.SuffixesSteps.{once_step_at, view_step_at}
use Rattle.driver_disambiguation.proofs.year_suffixes.entries.Goals as goal

pub loop-cite-preserved : goal.loop-cite-preserved
loop-cite-preserved c = (
  λ e. view_step_at (λ s. printed_view s.now) (λ s. s.entry) c.args.class.now c.loop-cite.cite-index c.cite-item.result e _ _ c.loop-cite-test.true
      (c.loop-cite.invariant.0 e) c.cite-item.is (c.in_ok-push_new.ensures.earlier e),
  once_step_at (λ s. printed_view s.now) (λ s. s.entry) c.args.class.now c.loop-cite.cite-index c.cite-item.result _ _ _ c.loop-cite-test.true
      c.loop-cite.invariant.1 c.cite-item.is (c.loop-cite.invariant.0 c.cite-item.result.now.cite.entry) c.in_ok-push_new.ensures.entries,
)
