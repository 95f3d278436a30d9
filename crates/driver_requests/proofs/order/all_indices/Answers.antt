use Rattle.std.proofs.Common.{◌∷◌, ◌++◌, [], ap, ◌∙◌, sym}
use Rattle.driver_requests.proofs.OrderPut.{range_more}
use Rattle.driver_requests.proofs.order.all_indices.Goals as goal

pub loop-index-preserved : goal.loop-index-preserved
loop-index-preserved c = c.in_ok-push.ensures.items ∙ ap (λ xs. xs ++ c.loop-index.index ∷ []) c.loop-index.invariant ∙ sym (range_more c.loop-index.index)
