use Rattle.std.proofs.Common.{map, refl}
use Rattle.std.proofs.lemmas.Result.{IfOk-weaker}
use Rattle.laws.specs.Borrowed.{borrowed}
use Rattle.rendering.specs.Views.{style_context_view}
use Rattle.rendering_sorting.proofs.KeyOrder.{keys_compare}
use Rattle.sorting.specs.Keyed.{value_of}
use Rattle.driver_requests.specs.Views.{parts_of}
use Rattle.driver_order.specs.Keyed.{number_by}
use Rattle.driver_order.specs.Sorted.{item_keys}
use Rattle.driver_order.specs.Views.{keyed_item_view}
use Rattle.driver_order.proofs.OrderedKeys.{values_in_order}
use Rattle.driver_order.proofs.cites.sorted_items.Goals as goal

pub returns : goal.returns
returns g c =
    let ns = c.args.numbers.now in
    let number = number_by g.T.PartialEq.eq (borrowed ns.cited.now.entries.items) ns.numbers.now in
    let keys = item_keys (style_context_view c.args.context.now) g.T.EntryLike.answers number in
    IfOk-weaker c.sorted_by_keys.result _ _
    (λ v is. values_in_order keyed_item_view _ (λ a b. keys_compare a.key.items b.key.items) keys c.in_ok-keyed.keyed.items (map parts_of c.args.items.items) c.in_ok-keyed.ensures
    value_of parts_of (λ k. refl) v.items is)
    c.sorted_by_keys.ensures
