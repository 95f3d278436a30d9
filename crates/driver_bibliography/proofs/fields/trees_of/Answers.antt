use Rattle.std.proofs.Common.{◌≡◌, [], ◌∷◌, length, sym, ap, ◌∙◌, arith}
use Rattle.std.specs.Vec.Iter.{into_iter_items}
use Rattle.std.proofs.lemmas.List.{nil_from_length}
use Rattle.driver_bibliography.proofs.EachSteps.{trees_from, trees_go_on, trees_end}
use Rattle.driver_bibliography.proofs.fields.trees_of.Goals as goal

pub loop-item-init : goal.loop-item-init
loop-item-init c =
    let e = c.into_iter-item-iterator.ensures.into_iter_gives in
    record {
      same = λ k. trees_from (c.in_ok-trees.ensures.items k) (e.0 k);
      long = e.1 ∙ (c.args.printed.ok.0 ∙ sym (ap length e.0));
    }

pub loop-item-preserved : goal.loop-item-preserved
loop-item-preserved c =
    let rest = into_iter_items c.next.new.self in
    let steps : into_iter_items c.loop-item.item-iterator ≡ c.in-Some.item ∷ rest = c.in-Some.ensures.steps.0 in
    record {
      same = trees_go_on c.loop-item.trees.items c.push.new.self.items c.in-Some.item c.tree_of.result rest (into_iter_items c.loop-item.item-iterator) _ steps c.loop-item.invariant.same
          c.tree_of.ensures c.in_ok-push.ensures.items;
      long = omega (arith, c.loop-item.invariant.long, ap length steps, c.in-Some.ensures.steps.1);
    }

pub returns : goal.returns
returns c =
    let none : into_iter_items c.loop-item.item-iterator ≡ [] = nil_from_length _ (sym c.loop-item.invariant.long ∙ c.in-None.ensures.steps.0) in
    trees_end c.loop-item.trees.items (into_iter_items c.loop-item.item-iterator) _ none c.loop-item.invariant.same
