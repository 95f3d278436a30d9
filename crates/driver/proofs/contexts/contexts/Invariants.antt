use Rattle.std.proofs.Common.{◌≡◌, ◌++◌, drop, map}
use Rattle.rendering.specs.Views.{style_context_view}
use Rattle.driver_requests.specs.Views.{context_of}
use Rattle.driver.proofs.contexts.contexts.Given as goal

abbrev pub invariant-loop-request : goal.invariant-loop-request
invariant-loop-request g l = map style_context_view l.contexts.items ++ map context_of (drop l.request-index l.requests) ≡ map context_of l.requests
