use Rattle.driver_blocks.proofs.GatheredSteps.{gathered_more}
use Rattle.driver_blocks.proofs.blocks.gather.Goals as goal

pub loop-cite-preserved : goal.loop-cite-preserved
loop-cite-preserved c = (
  gathered_more c.args.by_text c.args.cites.now c.loop-cite.cite-index c.cite-item.result _ _ c.loop-cite-test.true c.cite-item.is c.loop-cite.invariant.0 c.in_ok-put.ensures.blocks,
  c.in_ok-put.ensures.table,
)
