use Rattle.std.proofs.Common.{◌≡◌, [], ◌∷◌, length, sym, ap, ◌∙◌, arith}
use Rattle.std.specs.Vec.Iter.{into_iter_items}
use Rattle.std.proofs.lemmas.List.{nil_from_length}
use Rattle.laws.specs.Borrowed.{borrowed}
use Rattle.rendering.specs.Views.{style_context_view}
use Rattle.driver_requests.specs.Views.{parts_of}
use Rattle.driver_order.specs.Keyed.{number_by}
use Rattle.driver_order.specs.Sorted.{item_keys}
use Rattle.driver_order.specs.Views.{keyed_item_view}
use Rattle.driver_order.proofs.MadeEach.{made_on, made_all}
use Rattle.driver_order.proofs.cites.keyed_items.Goals as goal

pub loop-item-preserved : goal.loop-item-preserved
loop-item-preserved g c =
    let x = style_context_view c.args.keys.now.context.now in
    let answers = g.T.EntryLike.answers in
    let number = number_by g.T.PartialEq.eq (borrowed c.args.numbers.now.cited.now.entries.items) c.args.numbers.now.numbers.now in
    let item = c.in-Some.item in
    let rest = into_iter_items c.next.new.self in
    let steps : into_iter_items c.loop-item.item-iterator ≡ item ∷ rest = c.in-Some.ensures.steps.0 in
    record {
      same = made_on keyed_item_view (λ i. (item_keys x answers number i, i)) parts_of c.loop-item.keyed.items c.push.new.self.items c.in_ok-keyed_item.field-0 item rest (into_iter_items c.loop-item.item-iterator) _ steps
          c.loop-item.invariant.same (c.in_ok-keyed_item.ensures ∙ ap (λ n. (item_keys x answers (λ _. n) (parts_of item), parts_of item)) c.number-number.ensures) c.in_ok-push.ensures.items;
      long = omega (arith, c.loop-item.invariant.long, ap length steps, c.in-Some.ensures.steps.1);
    }

pub returns : goal.returns
returns g c =
    let x = style_context_view c.args.keys.now.context.now in
    let number = number_by g.T.PartialEq.eq (borrowed c.args.numbers.now.cited.now.entries.items) c.args.numbers.now.numbers.now in
    let none : into_iter_items c.loop-item.item-iterator ≡ [] = nil_from_length _ (sym c.loop-item.invariant.long ∙ c.in-None.ensures.steps.0) in
    made_all keyed_item_view (λ i. (item_keys x g.T.EntryLike.answers number i, i)) parts_of c.loop-item.keyed.items (into_iter_items c.loop-item.item-iterator) _ none c.loop-item.invariant.same
