use Rattle.std.proofs.Common.{◌≡◌, ◌∷◌, length, ap, arith}
use Rattle.std.specs.Vec.Iter.{into_iter_items}
use Rattle.laws.specs.Borrowed.{borrowed}
use Rattle.rendering_style.specs.StyleViews.{style_view}
use Rattle.driver_order.specs.Keyed.{number_by}
use Rattle.driver_order.specs.Sorted.{request_in_order, request_parts}
use Rattle.driver_order.proofs.MadeEach.{made_on}
use Rattle.driver_order.proofs.requests.sorted_each.Goals as goal

pub loop-request-preserved : goal.loop-request-preserved
loop-request-preserved g c =
    let number = number_by g.T.PartialEq.eq (borrowed c.args.numbers.now.cited.now.entries.items) c.args.numbers.now.numbers.now in
    let rest = into_iter_items c.next.new.self in
    let steps : into_iter_items c.loop-request.request-iterator ≡ c.in-Some.request ∷ rest = c.in-Some.ensures.steps.0 in
    record {
      same = made_on request_parts (request_in_order (style_view c.args.sorting.now) g.T.EntryLike.answers number) request_parts c.loop-request.sorted.items c.push.new.self.items c.in_ok-sorted_request.field-0
          c.in-Some.request rest (into_iter_items c.loop-request.request-iterator) _ steps
          c.loop-request.invariant.same c.in_ok-sorted_request.ensures c.in_ok-push.ensures.items;
      long = omega (arith, c.loop-request.invariant.long, ap length steps, c.in-Some.ensures.steps.1);
    }
