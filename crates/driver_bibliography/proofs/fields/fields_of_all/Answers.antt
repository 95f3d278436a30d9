use Rattle.std.proofs.Common.{◌≡◌, [], ◌∷◌, ◌++◌, length, map, sym, ap, ◌∙◌, arith}
use Rattle.std.specs.Vec.Iter.{into_iter_items}
use Rattle.std.proofs.lemmas.List.{nil_from_length}
use Rattle.rendering_tree.specs.Views.{tree_view}
use Rattle.driver_bibliography.specs.Items.{fields_by}
use Rattle.driver_bibliography.specs.Views.{fields_view}
use Rattle.driver_bibliography.proofs.FieldsParted.{fields_go_on, fields_end}
use Rattle.driver_bibliography.proofs.fields.fields_of_all.Goals as goal

pub loop-tree-init : goal.loop-tree-init
loop-tree-init c =
    let e = c.into_iter-tree-iterator.ensures.into_iter_gives in
    record {
      same = λ k. map fields_view (c.in_ok-items.ensures.items k) ++ map (fields_by c.args.align) (map tree_view (e.0 k));
      long = e.1 ∙ (c.args.trees.ok.0 ∙ sym (ap length e.0));
    }

pub loop-tree-preserved : goal.loop-tree-preserved
loop-tree-preserved c =
    let rest = into_iter_items c.next.new.self in
    let steps : into_iter_items c.loop-tree.tree-iterator ≡ c.in-Some.tree ∷ rest = c.in-Some.ensures.steps.0 in
    record {
      same = fields_go_on c.args.align c.loop-tree.items.items c.push.new.self.items c.in-Some.tree c.in_ok-fields_of.field-0 rest (into_iter_items c.loop-tree.tree-iterator) _ steps c.loop-tree.invariant.same
          c.in_ok-fields_of.ensures c.in_ok-push.ensures.items;
      long = omega (arith, c.loop-tree.invariant.long, ap length steps, c.in-Some.ensures.steps.1);
    }

pub returns : goal.returns
returns c =
    let none : into_iter_items c.loop-tree.tree-iterator ≡ [] = nil_from_length _ (sym c.loop-tree.invariant.long ∙ c.in-None.ensures.steps.0) in
    fields_end c.args.align c.loop-tree.items.items (into_iter_items c.loop-tree.tree-iterator) _ none c.loop-tree.invariant.same
