use Rattle.std.proofs.Common.{◌≡◌, ◌<◌, ◌≤◌, length, get_or, set, rules, refl, sym, ap, ◌∙◌, arith}
use Rattle.std.specs.Str.{chars}
use Rattle.std.specs.Option.{option_map}
use Rattle.std.specs.Vec.{with_items}
use Rattle.std.proofs.lemmas.List.{length-set, with_items_is}
use Rattle.rendering_tree.specs.Trees.{Elem}
use Rattle.rendering_tree.specs.Views.{meta_view, child_view, element_view, children_view, tree_view}
use Rattle.rendering_tree.specs.declared.element.Elem.{Elem as Code, roll-Elem}
use Rattle.rendering_tree.specs.declared.element.ElemChild.{ElemChild, the_lemmas}
use Rattle.rendering_tree.specs.declared.element.ElemChild.TheOpen.{Elem-F}
use Rattle.rendering_tree.specs.declared.element.ElemChildren.{ElemChildren, roll-ElemChildren}
use Rattle.rendering_tree.proofs.TreesParting.{unvisited_on}
use Rattle.rendering_tree.proofs.ViewsLevels.{child-Elem, child_rolled, tree_rolled}
use Rattle.driver_bibliography.specs.Substitution.{has_single_names, text_alone}
use Rattle.driver_bibliography.specs.Views.{as_child}
use Rattle.driver_bibliography.proofs.ListsReplaced.{list_inside, lists_in, lists_inside, replacing_begins, replacing_ends, replacing_goes_on}
use Rattle.driver_bibliography.proofs.lists.+lists.Goals as goal

pub replace_lists-loop-part-init : goal.replace_lists-loop-part-init
replace_lists-loop-part-init t c = ((refl, λ k d le. refl), replacing_begins (text_alone (chars c.args.text.now)) c.args.parts.now)

pub replace_lists-loop-part-preserved : goal.replace_lists-loop-part-preserved
replace_lists-loop-part-preserved t c =
    let xs = c.loop-part.parts in
    let i = c.loop-part.part-index in
    let d = c.part-item.result in
    let y = c.replace_lists_in.new.part in
    let less : i < length xs = omega (arith, c.loop-part-test.true, c.loop-part.invariant.0.0) in (
      (length-set xs i y ∙ c.loop-part.invariant.0.0, unvisited_on c.args.parts.now xs (set xs i y) i y refl c.loop-part.invariant.0.1),
      replacing_goes_on (text_alone (chars c.args.text.now)) c.args.parts.now xs i (get_or xs i d) d y c.loop-part.invariant.1 less refl c.in_ok-replace_lists_in.ensures,
    )

pub replace_lists-returns : goal.replace_lists-returns
replace_lists-returns t c =
    let all : length c.loop-part.parts ≤ c.loop-part.part-index = omega (arith, c.loop-part-test.false, c.loop-part.invariant.0.0) in
    replacing_ends (text_alone (chars c.args.text.now)) c.args.parts.now c.loop-part.parts c.loop-part.part-index c.loop-part.invariant.1 all

pub replace_lists_in-returns-in-Elem : goal.replace_lists_in-returns-in-Elem
replace_lists_in-returns-in-Elem t c =
    lists_in (text_alone (chars c.args.text.now)) c.replace_lists_of.result {now = as_child (element_view c.replace_lists_of.new.elem)}
    (search (rules, the_lemmas, c.in-Elem.is))
    (ap (λ (f : Code). as_child (element_view f)) c.in-Elem.elem-is ∙ sym (ap child_view c.in-Elem.is ∙ child-Elem c.in-Elem.elem))
    c.replace_lists_of.ensures

pub replace_lists_of-returns-then-has_single_names : goal.replace_lists_of-returns-then-has_single_names
replace_lists_of-returns-then-has_single_names t c =
    let e = c.args.elem.now in
    let r : Elem-F ElemChild Code ElemChildren = record { children = roll-ElemChildren (record { 0 = c.replace_list.new.parts }); display = c.args.elem.now.display; meta = c.args.elem.now.meta } in
    list_inside (text_alone (chars c.args.text.now)) e.display (option_map meta_view e.meta) (tree_view e.children) c.replace_list.result (tree_view e.children) (children_view c.replace_list.new.parts.items)
    (sym (c.has_single_names.ensures ∙ ap (λ xs. has_single_names (children_view xs)) c.deref.ensures.value) ∙ c.if-has_single_names.true)
    (sym (child-Elem (roll-Elem r)) ∙ child_rolled r ∙ ap (Elem e.display (option_map meta_view e.meta)) (tree_rolled (record { 0 = c.replace_list.new.parts })))
    refl c.replace_list.ensures

pub replace_lists_of-returns : goal.replace_lists_of-returns
replace_lists_of-returns t c =
    let e = c.args.elem.now in
    let long : length c.replace_lists.new.parts ≡ c.args.elem.now.children.0.len = c.replace_lists.auto.parts ∙ ap length c.deref_mut.ensures.value ∙ sym c.args.elem.now.children.0.ok.0 in
    let r : Elem-F ElemChild Code ElemChildren = record { children = roll-ElemChildren (record { 0 = with_items c.args.elem.now.children.0 c.replace_lists.new.parts }); display = c.args.elem.now.display; meta = c.args.elem.now.meta } in
    lists_inside (text_alone (chars c.args.text.now)) e.display (option_map meta_view e.meta) (tree_view e.children) c.replace_lists.result (children_view c.deref_mut.result.now) (children_view c.replace_lists.new.parts)
    (sym (c.has_single_names.ensures ∙ ap (λ xs. has_single_names (children_view xs)) c.deref.ensures.value) ∙ c.if-has_single_names.false)
    (sym (child-Elem (roll-Elem r)) ∙ child_rolled r ∙ ap (Elem e.display (option_map meta_view e.meta)) (tree_rolled (record { 0 = with_items c.args.elem.now.children.0 c.replace_lists.new.parts }) ∙ ap children_view (with_items_is c.args.elem.now.children.0 c.replace_lists.new.parts long)))
    (ap children_view c.deref_mut.ensures.value) c.replace_lists.ensures
