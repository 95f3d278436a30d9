use Rattle.std.proofs.Common.{◌≡◌, ◌++◌, map, length}
use Rattle.std.specs.Vec.Iter.{into_iter_items, into_iter_len}
use Rattle.laws.specs.Borrowed.{borrowed}
use Rattle.rendering.specs.Views.{style_context_view}
use Rattle.driver_requests.specs.Views.{parts_of}
use Rattle.driver_order.specs.Keyed.{keyed_items, number_by}
use Rattle.driver_order.specs.Views.{keyed_item_view}
use Rattle.driver_order.proofs.cites.keyed_items.Given as goal

abbrev pub invariant-loop-item : goal.invariant-loop-item
invariant-loop-item g l =
    let x = style_context_view l.keys.context.now in
    let number = number_by g.T.PartialEq.eq (borrowed l.numbers.cited.now.entries.items) l.numbers.numbers.now in
    record {
      same : map keyed_item_view l.keyed.items ++ keyed_items x g.T.EntryLike.answers number (map parts_of (into_iter_items l.item-iterator))
          ≡ keyed_items x g.T.EntryLike.answers number (map parts_of l.fn.items.items);
      long : into_iter_len l.item-iterator ≡ length (into_iter_items l.item-iterator);
    }
