use Rattle.rendering.specs.Views.{style_context_view}
use Rattle.driver_requests.specs.Views.{context_of}
use Rattle.driver_rounds.proofs.ListsGrown.{read_goes_on}
use Rattle.driver.proofs.contexts.contexts.Goals as goal

pub loop-request-preserved : goal.loop-request-preserved
loop-request-preserved g c =
    read_goes_on style_context_view context_of c.args.requests.now c.loop-request.contexts.items c.push.new.self.items c.loop-request.request-index c.request-item.result c.in_ok-context_for.field-0 _ c.loop-request-test.true c.request-item.is
    c.loop-request.invariant c.in_ok-context_for.ensures c.in_ok-push.ensures.items
