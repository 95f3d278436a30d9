use Rattle.std.proofs.Common.{◌≡◌, ◌-◌, ◌≤◌, List, length, rules, sym, ap, ◌∙◌, arith}
use Rattle.std.proofs.lemmas.List.{length-set}
use Rattle.std.proofs.lemmas.Result.{IfOk-weaker, on_ok_weaker}
use Rattle.std.specs.Option.{option_map}
use Rattle.laws.specs.Characters.{space}
use Rattle.rendering_tree.specs.Tokens.{Token, with_letter_after}
use Rattle.rendering_tree.specs.Trees.{Elem, flat, flat_child}
use Rattle.rendering_tree.specs.Views.{meta_view, child_view, tree_view}
use Rattle.rendering_tree.specs.declared.element.Elem.{Elem as Code}
use Rattle.rendering_tree.specs.declared.element.ElemChild.{the_lemmas}
use Rattle.rendering_tree.specs.declared.element.ElemChild.TheVariants as variants
use Rattle.rendering_tree.proofs.ViewsLevels.{child-Elem}
use Rattle.rendering.specs.Ends.{has_end}
use Rattle.rendering.proofs.Spacing.{spacing_at_end, found_before, passed_before, others_before, element_end, element_as}
use Rattle.rendering.proofs.second_field.+spacing.Goals as goal

pub push_space-returns-then-branch-clause-end : goal.push_space-returns-then-branch-clause-end
push_space-returns-then-branch-clause-end t c =
    let xs = c.loop-index.parts.items in
    let i = c.loop-index.index in
    let below : i ≤ length xs = omega (arith, c.loop-index.auto.index, c.len-index.ensures, c.args.parts.now.ok.0, c.loop-index.invariant.0) in
    let asked = c.in_ok-push_space_to.ensures in
    (found_before c.args.parts.now.items xs i c.index_mut.result.now c.push_space_to.new.part c.loop-index.invariant.2 c.loop-index-test.true below c.index_mut.ensures.value
    asked.spaced (sym asked.end ∙ c.if-branch.true)).0

pub push_space-returns-then-branch-clause-spaced : goal.push_space-returns-then-branch-clause-spaced
push_space-returns-then-branch-clause-spaced t c =
    let xs = c.loop-index.parts.items in
    let i = c.loop-index.index in
    let below : i ≤ length xs = omega (arith, c.loop-index.auto.index, c.len-index.ensures, c.args.parts.now.ok.0, c.loop-index.invariant.0) in
    let asked = c.in_ok-push_space_to.ensures in
    (found_before c.args.parts.now.items xs i c.index_mut.result.now c.push_space_to.new.part c.loop-index.invariant.2 c.loop-index-test.true below c.index_mut.ensures.value
    asked.spaced (sym asked.end ∙ c.if-branch.true)).1

pub push_space-loop-index-preserved : goal.push_space-loop-index-preserved
push_space-loop-index-preserved t c =
    let xs = c.loop-index.parts.items in
    let i = c.loop-index.index in
    let new = c.push_space_to.new.part in
    let below : i ≤ length xs = omega (arith, c.loop-index.auto.index, c.len-index.ensures, c.args.parts.now.ok.0, c.loop-index.invariant.0) in
    let asked = c.in_ok-push_space_to.ensures in (
      length-set xs (i - 1) new ∙ c.loop-index.invariant.0,
      others_before c.args.parts.now.items xs i new c.loop-index-test.true c.loop-index.invariant.1,
      passed_before c.args.parts.now.items xs i c.index_mut.result.now new c.loop-index.invariant.2 c.loop-index-test.true below c.index_mut.ensures.value
          asked.spaced (sym asked.end ∙ c.if-branch.false),
    )

pub push_space-returns-clause-spaced : goal.push_space-returns-clause-spaced
push_space-returns-clause-spaced t c =
    let none : c.loop-index.index ≡ 0 = omega (arith, c.loop-index-test.false) in
    (spacing_at_end c.args.parts.now.items c.loop-index.parts.items c.loop-index.index c.loop-index.invariant.2 none).1

-- what a child is that is an element
viewed : (t : _) (c : goal.push_space_to-After-push_space_in t)
    → child_view c.args.part.now ≡ Elem c.in-Elem.elem.display (option_map meta_view c.in-Elem.elem.meta) (tree_view c.in-Elem.elem.children)
viewed t c = ap child_view c.in-Elem.is ∙ child-Elem c.in-Elem.elem

pub push_space_to-returns-in-Elem-clause-end : goal.push_space_to-returns-in-Elem-clause-end
push_space_to-returns-in-Elem-clause-end t c =
    let e = c.in-Elem.elem in
    let inside = ap (λ (f : Code). has_end (flat (tree_view f.children))) c.in-Elem.elem-is in
    let whole = sym (element_end e.display (option_map meta_view e.meta) (tree_view e.children)) in
    IfOk-weaker c.push_space_in.result _ _ (λ b known. known ∙ inside ∙ whole ∙ ap (λ x. has_end (flat_child x)) (sym (viewed t c))) c.push_space_in.ensures.end

by_way_of : (y : List Token) {x z : List Token} → x ≡ y → y ≡ z → x ≡ z
by_way_of y e f = e ∙ f

pub push_space_to-returns-in-Elem-clause-spaced : goal.push_space_to-returns-in-Elem-clause-spaced
push_space_to-returns-in-Elem-clause-spaced t c =
    let e = c.in-Elem.elem in
    let new = c.push_space_in.new.elem in
    on_ok_weaker c.push_space_in.result
    (λ known. by_way_of (flat_child (child_view (variants.Elem new))) (search (rules, the_lemmas, c.in-Elem.is))
    (ap flat_child (child-Elem new)
    ∙ element_as e.display new.display (option_map meta_view e.meta) (option_map meta_view new.meta) (tree_view e.children) (tree_view new.children)
    (c.push_space_in.ensures.same.0 ∙ ap (λ (f : Code). f.display) c.in-Elem.elem-is)
    (ap (option_map meta_view) (c.push_space_in.ensures.same.1 ∙ ap (λ (f : Code). f.meta) c.in-Elem.elem-is))
    (known ∙ ap (λ (f : Code). with_letter_after space (flat (tree_view f.children))) c.in-Elem.elem-is)
    ∙ ap (λ x. with_letter_after space (flat_child x)) (sym (viewed t c))))
    c.push_space_in.ensures.spaced
