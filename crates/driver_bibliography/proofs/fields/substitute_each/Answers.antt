use Rattle.std.proofs.Common.{◌≡◌, ◌+◌, ◌<◌, [], ◌∷◌, length, map, refl, sym, ap, ◌∙◌, arith}
use Rattle.std.specs.Str.{chars}
use Rattle.std.specs.Vec.Iter.{into_iter_items}
use Rattle.std.proofs.lemmas.List.{nil_from_length, length-append}
use Rattle.driver_bibliography.specs.Views.{all_changed, printed_view, repeated_view}
use Rattle.driver_bibliography.proofs.EachSteps.{changed_from, each_goes_on, each_ends}
use Rattle.driver_bibliography.proofs.fields.substitute_each.Goals as goal

pub loop-item-init : goal.loop-item-init
loop-item-init c =
    let e = c.into_iter-item-iterator.ensures.into_iter_gives in
    record {
      same = λ k. changed_from (chars c.args.text.now) c.args.repeats.now (c.in_ok-items.ensures.items k) (e.0 k);
      long = e.1 ∙ (c.args.printed.ok.0 ∙ sym (ap length e.0));
      all = omega (arith, ap length c.in_ok-items.ensures.items, ap length e.0, c.requires);
    }

pub loop-item-preserved : goal.loop-item-preserved
loop-item-preserved c =
    let rest = into_iter_items c.next.new.self in
    let steps : into_iter_items c.loop-item.item-iterator ≡ c.in-Some.item ∷ rest = c.in-Some.ensures.steps.0 in
    let left : length (into_iter_items c.loop-item.item-iterator) ≡ length rest + 1 = omega (arith, ap length steps) in
    let more : length c.push.new.self.items ≡ length c.loop-item.items.items + 1 = ap length c.in_ok-push.ensures.items ∙ length-append c.loop-item.items.items (c.in_ok-substitute.field-0 ∷ []) in
    let less : length c.loop-item.items.items < length c.args.repeats.now = omega (arith, left, c.loop-item.invariant.all) in
    let index : c.len-in-loop-item.result ≡ length c.loop-item.items.items = omega (arith, c.len-in-loop-item.ensures, c.loop-item.items.ok.0) in
    let known : changed_from (chars c.args.text.now) c.args.repeats.now c.loop-item.items.items (c.in-Some.item ∷ rest)
    ≡ all_changed (chars c.args.text.now) (map repeated_view c.args.repeats.now) (map printed_view c.args.printed.items) =
    ap (changed_from (chars c.args.text.now) c.args.repeats.now c.loop-item.items.items) (sym steps) ∙ c.loop-item.invariant.same in
    record {
      same = each_goes_on (chars c.args.text.now) c.args.repeats.now c.loop-item.items.items c.push.new.self.items c.len-in-loop-item.result _ _ c.in-Some.item c.in_ok-substitute.field-0 rest _ _ index less refl known
          c.in_ok-substitute.ensures c.tree_of.ensures c.in_ok-push.ensures.items;
      long = omega (arith, c.loop-item.invariant.long, left, c.in-Some.ensures.steps.1);
      all = omega (arith, more, left, c.loop-item.invariant.all);
    }

pub returns : goal.returns
returns c =
    let none : into_iter_items c.loop-item.item-iterator ≡ [] = nil_from_length _ (sym c.loop-item.invariant.long ∙ c.in-None.ensures.steps.0) in
    each_ends (chars c.args.text.now) c.args.repeats.now c.loop-item.items.items (into_iter_items c.loop-item.item-iterator) _ none c.loop-item.invariant.same
