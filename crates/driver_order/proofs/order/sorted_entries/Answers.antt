use Rattle.std.proofs.Common.{refl}
use Rattle.std.specs.List.{enumerate_from}
use Rattle.std.proofs.lemmas.Result.{IfOk-weaker}
use Rattle.laws.specs.Borrowed.{borrowed}
use Rattle.rendering.specs.Views.{style_context_view}
use Rattle.rendering_sorting.proofs.KeyOrder.{keys_compare}
use Rattle.sorting.specs.Keyed.{value_of}
use Rattle.driver_order.specs.Order.{entry_keys}
use Rattle.driver_order.specs.Views.{keyed_view}
use Rattle.driver_order.proofs.OrderedKeys.{values_as}
use Rattle.driver_order.proofs.order.sorted_entries.Goals as goal

pub returns : goal.returns
returns g c =
    let keys = entry_keys (style_context_view c.args.context.now) g.T.EntryLike.answers in
    IfOk-weaker c.sorted_by_keys.result _ _
    (λ v is. values_as keyed_view _ (λ a b. keys_compare a.key.items b.key.items) keys (λ e. e.1) c.in_ok-keyed.keyed.items (enumerate_from 0 (borrowed c.args.entries.now)) c.in_ok-keyed.ensures
    value_of (λ b. b.now) (λ k. refl) v.items is)
    c.sorted_by_keys.ensures
