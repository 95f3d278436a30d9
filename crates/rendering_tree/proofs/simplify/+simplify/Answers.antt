use Rattle.std.specs.Global.{Global}
use Rattle.std.proofs.Common.{Vec, ◌≡◌, List, [], ◌∷◌, length, refl, sym, ap, subst, ◌∙◌, arith}
use Rattle.std.specs.Vec.Iter.{into_iter_items}
use Rattle.std.specs.Option.{option_map}
use Rattle.std.proofs.lemmas.List.{nil_from_length}
use Rattle.rendering_tree.specs.Simplify.{Puts, is_whole}
use Rattle.rendering_tree.specs.Trees.{flat, flat_child}
use Rattle.rendering_tree.specs.Views.{meta_view, child_view, children_view, tree_view}
use Rattle.rendering_tree.specs.declared.element.ElemChild.{ElemChild}
use Rattle.rendering_tree.proofs.SimplifySteps.{on_ok, puts_nothing, puts_both, puts_all, whole_element, same_tokens}
use Rattle.rendering_tree.proofs.ViewsLevels.{child-Elem, child_rolled, tree_rolled}
use Rattle.rendering_tree.proofs.simplify.+simplify.Goals as goal

pub push_all-loop-part-init : goal.push_all-loop-part-init
push_all-loop-part-init t c =
    let e = c.into_iter-part-iterator.ensures.into_iter_gives in
    let parts = c.into_vec-part-items in
    record {
      same = λ new p. subst (λ (xs : List ElemChild). Puts (flat (children_view xs)) (children_view c.args.simple.now.items) new) (e.0 ∙ ap (λ (v : Vec ElemChild Global). v.items) parts.ensures) p;
      long = e.1 ∙ (parts.result.ok.0 ∙ sym (ap length e.0));
    }

pub push_all-loop-part-preserved : goal.push_all-loop-part-preserved
push_all-loop-part-preserved t c =
    let rest = into_iter_items c.next.new.self in
    let steps : into_iter_items c.loop-part.part-iterator ≡ c.in-Some.part ∷ rest = c.in-Some.ensures.steps.0 in
    record {
      same = λ new p. c.loop-part.invariant.same new
          (subst (λ (xs : List ElemChild). Puts (flat (children_view xs)) (children_view c.loop-part.simple.items) new) (sym steps)
          (puts_both (flat_child (child_view c.in-Some.part)) (flat (children_view rest)) (children_view c.loop-part.simple.items) (children_view c.push_child.new.simple.items) new c.in_ok-push_child.ensures p));
      long = omega (arith, c.loop-part.invariant.long, ap length steps, c.in-Some.ensures.steps.1);
    }

pub push_all-returns : goal.push_all-returns
push_all-returns t c =
    let none : into_iter_items c.loop-part.part-iterator ≡ [] = nil_from_length _ (sym c.loop-part.invariant.long ∙ c.in-None.ensures.steps.0) in
    let now = children_view c.loop-part.simple.items in
    c.loop-part.invariant.same now (puts_nothing (flat (children_view (into_iter_items c.loop-part.part-iterator))) now now (ap (λ (xs : List ElemChild). flat (children_view xs)) none) refl)

pub push_element-push_whole-requires : goal.push_element-push_whole-requires
push_element-push_whole-requires t c =
    let e = c.args.elem in
    ap is_whole (child_rolled (record { children = c.in_ok-children.children; display = e.display; meta = e.meta }))
    ∙ whole_element e.display (option_map meta_view e.meta) (tree_view c.in_ok-children.children) (tree_view e.children) (sym c.says_something.ensures ∙ c.if-not-says_something.false) c.in_ok-children.ensures

pub push_element-returns : goal.push_element-returns
push_element-returns t c =
    let e = c.args.elem in
    let tokens =
    ap flat_child (child_rolled (record { children = c.in_ok-children.children; display = e.display; meta = e.meta }))
    ∙ same_tokens e.display (option_map meta_view e.meta) (tree_view c.in_ok-children.children) (tree_view e.children) c.in_ok-children.ensures
    ∙ ap flat_child (sym (child-Elem e)) in
    on_ok c.push_whole.result (subst (λ ts. Puts ts (children_view c.args.simple.now.items) (children_view c.push_whole.new.simple.items)) tokens) c.push_whole.ensures

pub simplified-returns : goal.simplified-returns
simplified-returns t c =
    tree_rolled (record { 0 = c.push_all.new.simple })
    ∙ puts_all (tree_view c.args.parts) (children_view c.in_ok-simple.simple.items) (children_view c.push_all.new.simple.items) (ap children_view c.in_ok-simple.ensures.items) c.in_ok-push_all.ensures
