use Rattle.driver.proofs.TakenTrees.{nameless_goes_on}
use Rattle.driver.proofs.final_prints.without_names.Goals as goal

pub loop-cite-preserved : goal.loop-cite-preserved
loop-cite-preserved c =
    λ style.
    nameless_goes_on style c.args.arranged.now c.loop-cite.cite-index c.cite-item.result c.without_name.result c.loop-cite.indices.items c.push.new.self.items c.loop-cite-test.true c.cite-item.is c.in_ok-push.ensures.items (c.without_name.ensures style)
    (c.loop-cite.invariant style)
