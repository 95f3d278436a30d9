use Rattle.std.proofs.Common.{◌≡◌, ◌<◌, ◌≤◌, length, set, rules, refl, sym, ap, ◌∙◌, arith}
use Rattle.std.proofs.lemmas.List.{get_or_read, length-set}
use Rattle.std.specs.Option.{option_map}
use Rattle.rendering_tree.specs.Parting.{has_meta, element_of, left, taken}
use Rattle.rendering_tree.specs.Trees.{Children, Element, Elem, nothing, before, parted, parted_in}
use Rattle.rendering_tree.specs.Views.{meta_view, child_view, element_view, children_view, tree_view}
use Rattle.rendering_tree.specs.declared.element.Elem.{Elem as Code}
use Rattle.rendering_tree.specs.declared.element.ElemChild.{the_lemmas}
use Rattle.rendering_tree.specs.declared.element.ElemChild.TheVariants as variants
use Rattle.rendering_tree.proofs.TreesParting.{passing_begins, passing_ends, unvisited_on, passed, found_whole, found_within, within-taken}
use Rattle.rendering_tree.proofs.ViewsLevels.{child-Elem}
use Rattle.rendering_tree.proofs.remove.+removing.Goals as goal

pub remove_first-loop-index-init : goal.remove_first-loop-index-init
remove_first-loop-index-init t c = (refl, λ k d le. refl, passing_begins c.args.parts.now.items)

-- an element that stands for something
whole : (t : _) (c : goal.remove_first-After-elem_of t)
    → (option_map (λ e. element_view e) c.elem_of.result ≡ taken (parted (children_view c.args.parts.now.items)))
    × (children_view c.remove.new.self.items ≡ left (parted (children_view c.args.parts.now.items)) (children_view c.args.parts.now.items))
whole t c =
    let xs = c.loop-index.parts.items in
    let i = c.loop-index.index in
    let less : i < length xs = omega (arith, c.loop-index-test.true, c.len-index-end.ensures, c.args.parts.now.ok.0, c.loop-index.invariant.0) in
    let same : c.remove.result ≡ c.index.result.now = get_or_read xs i c.remove.result less c.remove.ensures.value c.index.result.now ∙ sym c.index.ensures in
    found_whole c.args.parts.now.items xs i c.index.result.now c.loop-index.invariant.2 less c.index.ensures c.remove.new.self.items c.elem_of.result
    (sym c.has_meta.ensures ∙ c.if-has_meta.true) (c.elem_of.ensures ∙ ap (λ x. element_of (child_view x)) same) c.remove.ensures.by_index.2

pub remove_first-returns-then-has_meta-clause-taken : goal.remove_first-returns-then-has_meta-clause-taken
remove_first-returns-then-has_meta-clause-taken t c = (whole t c).0

pub remove_first-returns-then-has_meta-clause-left : goal.remove_first-returns-then-has_meta-clause-left
remove_first-returns-then-has_meta-clause-left t c = (whole t c).1

-- an element in a child
within : (t : _) (c : goal.remove_first-Then-is_some t)
    → (option_map (λ e. element_view e) c.remove_within-elem.result ≡ taken (parted (children_view c.args.parts.now.items)))
    × (children_view (set c.loop-index.parts.items c.loop-index.index c.remove_within-elem.new.part) ≡ left (parted (children_view c.args.parts.now.items)) (children_view c.args.parts.now.items))
within t c =
    let xs = c.loop-index.parts.items in
    let i = c.loop-index.index in
    let less : i < length xs = omega (arith, c.loop-index-test.true, c.len-index-end.ensures, c.args.parts.now.ok.0, c.loop-index.invariant.0) in
    let called = c.remove_within-elem in
    found_within c.args.parts.now.items xs i c.index_mut.result.now c.loop-index.invariant.2 less c.index_mut.ensures.value (set xs i called.new.part) called.new.part called.result
    refl (sym c.is_some.ensures ∙ c.if-is_some.true) called.ensures.taken called.ensures.left

pub remove_first-returns-then-is_some-clause-taken : goal.remove_first-returns-then-is_some-clause-taken
remove_first-returns-then-is_some-clause-taken t c = (within t c).0

pub remove_first-returns-then-is_some-clause-left : goal.remove_first-returns-then-is_some-clause-left
remove_first-returns-then-is_some-clause-left t c = (within t c).1

pub remove_first-loop-index-preserved : goal.remove_first-loop-index-preserved
remove_first-loop-index-preserved t c =
    let xs = c.loop-index.parts.items in
    let i = c.loop-index.index in
    let less : i < length xs = omega (arith, c.loop-index-test.true, c.len-index-end.ensures, c.args.parts.now.ok.0, c.loop-index.invariant.0) in
    let called = c.remove_within-elem in (
      length-set xs i called.new.part ∙ c.loop-index.invariant.0,
      unvisited_on c.args.parts.now.items xs (set xs i called.new.part) i called.new.part refl c.loop-index.invariant.1,
      passed c.args.parts.now.items xs i c.index_mut.result.now c.loop-index.invariant.2 less c.index_mut.ensures.value (set xs i called.new.part) called.new.part called.result
          refl (sym c.is_some.ensures ∙ c.if-is_some.false) called.ensures.taken called.ensures.left,
    )

pub remove_first-returns-clause-taken : goal.remove_first-returns-clause-taken
remove_first-returns-clause-taken t c =
    let all : length c.loop-index.parts.items ≤ c.loop-index.index = omega (arith, c.loop-index-test.false, c.len-index-end.ensures, c.args.parts.now.ok.0, c.loop-index.invariant.0) in
    (passing_ends c.args.parts.now.items c.loop-index.parts.items c.loop-index.index c.loop-index.invariant.2 all).0

pub remove_first-returns-clause-left : goal.remove_first-returns-clause-left
remove_first-returns-clause-left t c =
    let all : length c.loop-index.parts.items ≤ c.loop-index.index = omega (arith, c.loop-index-test.false, c.len-index-end.ensures, c.args.parts.now.ok.0, c.loop-index.invariant.0) in
    (passing_ends c.args.parts.now.items c.loop-index.parts.items c.loop-index.index c.loop-index.invariant.2 all).1

-- what a child is that is an element
viewed : (t : _) (c : goal.remove_within-After-remove_in t)
    → child_view c.args.part.now ≡ Elem c.in-Elem.elem.display (option_map meta_view c.in-Elem.elem.meta) (tree_view c.in-Elem.elem.children)
viewed t c = ap child_view c.in-Elem.is ∙ child-Elem c.in-Elem.elem

-- what is taken out of it, and what is left
parts : (t : _) (c : goal.remove_within-After-remove_in t)
    → (taken (parted (tree_view c.in-Elem.elem.children)) ≡ taken (parted_in (Elem c.in-Elem.elem.display (option_map meta_view c.in-Elem.elem.meta) (tree_view c.in-Elem.elem.children))))
    × (before (Elem c.in-Elem.elem.display (option_map meta_view c.in-Elem.elem.meta) (left (parted (tree_view c.in-Elem.elem.children)) (tree_view c.in-Elem.elem.children))) nothing
    ≡ left (parted_in (Elem c.in-Elem.elem.display (option_map meta_view c.in-Elem.elem.meta) (tree_view c.in-Elem.elem.children)))
    (before (Elem c.in-Elem.elem.display (option_map meta_view c.in-Elem.elem.meta) (tree_view c.in-Elem.elem.children)) nothing))
parts t c =
    let e = c.in-Elem.elem in
    let xs = tree_view e.children in
    within-taken e.display (option_map meta_view e.meta) xs (left (parted xs) xs) (ap has_meta (sym (viewed t c)) ∙ c.requires) refl

pub remove_within-returns-in-Elem-clause-taken : goal.remove_within-returns-in-Elem-clause-taken
remove_within-returns-in-Elem-clause-taken t c =
    c.remove_in.ensures.taken
    ∙ ap (λ (f : Code). taken (parted (tree_view f.children))) c.in-Elem.elem-is
    ∙ (parts t c).0
    ∙ ap (λ x. taken (parted_in x)) (sym (viewed t c))

by_way_of : (y : Children) {x z : Children} → x ≡ y → y ≡ z → x ≡ z
by_way_of y e f = e ∙ f

pub remove_within-returns-in-Elem-clause-left : goal.remove_within-returns-in-Elem-clause-left
remove_within-returns-in-Elem-clause-left t c =
    let e = c.in-Elem.elem in
    let new = c.remove_in.new.elem in
    let now : child_view (variants.Elem new) ≡ Elem e.display (option_map meta_view e.meta) (left (parted (tree_view e.children)) (tree_view e.children)) =
    child-Elem new
    ∙ ap (λ (f : Element). Elem f.display f.meta f.children) c.remove_in.ensures.left
    ∙ ap (λ (f : Code). Elem f.display (option_map meta_view f.meta) (left (parted (tree_view f.children)) (tree_view f.children))) c.in-Elem.elem-is in
    by_way_of (before (child_view (variants.Elem new)) nothing) (search (rules, the_lemmas, c.in-Elem.is))
    (ap (λ y. before y nothing) now ∙ (parts t c).1 ∙ ap (λ x. left (parted_in x) (before x nothing)) (sym (viewed t c)))
