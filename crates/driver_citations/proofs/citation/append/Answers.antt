use Rattle.std.proofs.Common.{Vec, ◌≡◌, [], ◌∷◌, length, sym, ap, ◌∙◌, arith}
use Rattle.std.specs.Global.{Global}
use Rattle.std.specs.Vec.Iter.{into_iter_items}
use Rattle.std.proofs.lemmas.List.{nil_from_length}
use Rattle.rendering_tree.specs.Trees.{followed_by}
use Rattle.rendering_tree.specs.Views.{children_view, tree_view}
use Rattle.rendering_tree.specs.declared.element.ElemChild.{ElemChild}
use Rattle.driver_citations.proofs.JoiningSteps.{child_put, none_left}
use Rattle.driver_citations.proofs.citation.append.Goals as goal

pub loop-part-init : goal.loop-part-init
loop-part-init c =
    let e = c.into_iter-part-iterator.ensures.into_iter_gives in
    let parts = c.into_vec-part-items in
    record {
      same = ap (λ xs. followed_by (tree_view c.args.parts.now) (children_view xs)) (e.0 ∙ ap (λ (v : Vec ElemChild Global). v.items) parts.ensures);
      long = e.1 ∙ (parts.result.ok.0 ∙ sym (ap length e.0));
    }

pub loop-part-preserved : goal.loop-part-preserved
loop-part-preserved c =
    let rest = into_iter_items c.next.new.self in
    let steps : into_iter_items c.loop-part.part-iterator ≡ c.in-Some.part ∷ rest = c.in-Some.ensures.steps.0 in
    record {
      same = child_put (tree_view c.loop-part.parts) (tree_view c.push.new.self) _ c.in-Some.part rest (into_iter_items c.loop-part.part-iterator) steps c.loop-part.invariant.same c.in_ok-push.ensures.ok;
      long = omega (arith, c.loop-part.invariant.long, ap length steps, c.in-Some.ensures.steps.1);
    }

pub returns : goal.returns
returns c =
    let none : into_iter_items c.loop-part.part-iterator ≡ [] = nil_from_length _ (sym c.loop-part.invariant.long ∙ c.in-None.ensures.steps.0) in
    none_left (tree_view c.loop-part.parts) _ (into_iter_items c.loop-part.part-iterator) none c.loop-part.invariant.same
