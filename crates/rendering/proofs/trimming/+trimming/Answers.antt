use Rattle.std.proofs.Common.{◌≡◌, ◌-◌, ◌≤◌, List, length, rules, refl, sym, ap, ◌∙◌, arith}
use Rattle.std.proofs.lemmas.List.{length-set}
use Rattle.std.specs.Option.{option_map}
use Rattle.rendering_tree.specs.Tokens.{Token}
use Rattle.rendering_tree.specs.Trees.{Elem, flat, flat_child}
use Rattle.rendering_tree.specs.Views.{meta_view, child_view, tree_view}
use Rattle.rendering_tree.specs.declared.element.Elem.{Elem as Code}
use Rattle.rendering_tree.specs.declared.element.ElemChild.{the_lemmas}
use Rattle.rendering_tree.specs.declared.element.ElemChild.TheVariants as variants
use Rattle.rendering_tree.proofs.ViewsLevels.{child-Elem}
use Rattle.rendering.specs.Ends.{has_end, trimmed}
use Rattle.rendering.proofs.Spacing.{others_before}
use Rattle.rendering.proofs.TrimmedEnds.{element_as, element_left, found_before, passed_before, trimming_at_end, trimming_begins}
use Rattle.rendering.proofs.trimming.+trimming.Goals as goal

pub trim-loop-index-init : goal.trim-loop-index-init
trim-loop-index-init t c =
    let all : length c.args.parts.now.items ≤ c.len-index.result = omega (arith, c.len-index.ensures, c.args.parts.now.ok.0) in
    (refl, λ k d less. refl, trimming_begins c.args.parts.now.items c.len-index.result all)

pub trim-returns-then-trim_child-clause-left : goal.trim-returns-then-trim_child-clause-left
trim-returns-then-trim_child-clause-left t c =
    let xs = c.loop-index.parts.items in
    let i = c.loop-index.index in
    let below : i ≤ length xs = omega (arith, c.loop-index.auto.index, c.len-index.ensures, c.args.parts.now.ok.0, c.loop-index.invariant.0) in
    let asked = c.trim_child.ensures in
    (found_before c.args.parts.now.items xs i c.index_mut.result.now c.trim_child.new.part c.loop-index.invariant.2 c.loop-index-test.true below c.index_mut.ensures.value
    asked.cut (sym asked.left ∙ c.if-trim_child.true)).0

pub trim-returns-then-trim_child-clause-cut : goal.trim-returns-then-trim_child-clause-cut
trim-returns-then-trim_child-clause-cut t c =
    let xs = c.loop-index.parts.items in
    let i = c.loop-index.index in
    let below : i ≤ length xs = omega (arith, c.loop-index.auto.index, c.len-index.ensures, c.args.parts.now.ok.0, c.loop-index.invariant.0) in
    let asked = c.trim_child.ensures in
    (found_before c.args.parts.now.items xs i c.index_mut.result.now c.trim_child.new.part c.loop-index.invariant.2 c.loop-index-test.true below c.index_mut.ensures.value
    asked.cut (sym asked.left ∙ c.if-trim_child.true)).1

pub trim-loop-index-preserved : goal.trim-loop-index-preserved
trim-loop-index-preserved t c =
    let xs = c.loop-index.parts.items in
    let i = c.loop-index.index in
    let new = c.trim_child.new.part in
    let below : i ≤ length xs = omega (arith, c.loop-index.auto.index, c.len-index.ensures, c.args.parts.now.ok.0, c.loop-index.invariant.0) in
    let asked = c.trim_child.ensures in (
      length-set xs (i - 1) new ∙ c.loop-index.invariant.0,
      others_before c.args.parts.now.items xs i new c.loop-index-test.true c.loop-index.invariant.1,
      passed_before c.args.parts.now.items xs i c.index_mut.result.now new c.loop-index.invariant.2 c.loop-index-test.true below c.index_mut.ensures.value
          asked.cut (sym asked.left ∙ c.if-trim_child.false),
    )

pub trim-returns-clause-left : goal.trim-returns-clause-left
trim-returns-clause-left t c =
    let none : c.loop-index.index ≡ 0 = omega (arith, c.loop-index-test.false) in
    (trimming_at_end c.args.parts.now.items c.loop-index.parts.items c.loop-index.index c.loop-index.invariant.2 none).0

pub trim-returns-clause-cut : goal.trim-returns-clause-cut
trim-returns-clause-cut t c =
    let none : c.loop-index.index ≡ 0 = omega (arith, c.loop-index-test.false) in
    (trimming_at_end c.args.parts.now.items c.loop-index.parts.items c.loop-index.index c.loop-index.invariant.2 none).1

-- what a child is that is an element
viewed : (t : _) (c : goal.trim_child-After-trim_element t)
    → child_view c.args.part.now ≡ Elem c.in-Elem.elem.display (option_map meta_view c.in-Elem.elem.meta) (tree_view c.in-Elem.elem.children)
viewed t c = ap child_view c.in-Elem.is ∙ child-Elem c.in-Elem.elem

pub trim_child-returns-in-Elem-clause-left : goal.trim_child-returns-in-Elem-clause-left
trim_child-returns-in-Elem-clause-left t c =
    let e = c.in-Elem.elem in
    c.trim_element.ensures.left
    ∙ ap (λ (f : Code). has_end (trimmed (flat (tree_view f.children)))) c.in-Elem.elem-is
    ∙ sym (element_left e.display (option_map meta_view e.meta) (tree_view e.children))
    ∙ ap (λ x. has_end (trimmed (flat_child x))) (sym (viewed t c))

by_way_of : (y : List Token) {x z : List Token} → x ≡ y → y ≡ z → x ≡ z
by_way_of y e f = e ∙ f

pub trim_child-returns-in-Elem-clause-cut : goal.trim_child-returns-in-Elem-clause-cut
trim_child-returns-in-Elem-clause-cut t c =
    let e = c.in-Elem.elem in
    let new = c.trim_element.new.elem in
    by_way_of (flat_child (child_view (variants.Elem new))) (search (rules, the_lemmas, c.in-Elem.is))
    (ap flat_child (child-Elem new)
    ∙ element_as e.display new.display (option_map meta_view e.meta) (option_map meta_view new.meta) (tree_view e.children) (tree_view new.children)
    (c.trim_element.ensures.same.0 ∙ ap (λ (f : Code). f.display) c.in-Elem.elem-is)
    (ap (option_map meta_view) (c.trim_element.ensures.same.1 ∙ ap (λ (f : Code). f.meta) c.in-Elem.elem-is))
    (c.trim_element.ensures.cut ∙ ap (λ (f : Code). trimmed (flat (tree_view f.children))) c.in-Elem.elem-is)
    ∙ ap (λ x. trimmed (flat_child x)) (sym (viewed t c)))
