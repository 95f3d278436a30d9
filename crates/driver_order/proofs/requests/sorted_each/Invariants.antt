use Rattle.std.proofs.Common.{◌≡◌, ◌++◌, map, length}
use Rattle.std.specs.Vec.Iter.{into_iter_items, into_iter_len}
use Rattle.laws.specs.Borrowed.{borrowed}
use Rattle.rendering_style.specs.StyleViews.{style_view}
use Rattle.driver_order.specs.Keyed.{number_by}
use Rattle.driver_order.specs.Sorted.{request_in_order, request_parts}
use Rattle.driver_order.proofs.requests.sorted_each.Given as goal

abbrev pub invariant-loop-request : goal.invariant-loop-request
invariant-loop-request g l =
    let sorted = request_in_order (style_view l.sorting) g.T.EntryLike.answers (number_by g.T.PartialEq.eq (borrowed l.numbers.cited.now.entries.items) l.numbers.numbers.now) in
    record {
      same : map request_parts l.sorted.items ++ map sorted (map request_parts (into_iter_items l.request-iterator)) ≡ map sorted (map request_parts l.fn.requests.items);
      long : into_iter_len l.request-iterator ≡ length (into_iter_items l.request-iterator);
    }
