use Rattle.std.proofs.Common.{◌≡◌, ◌<◌, ◌≤◌, length, get_or, set, rules, refl, sym, ap, ◌∙◌, arith}
use Rattle.std.specs.Str.{chars}
use Rattle.std.specs.Option.{option_map}
use Rattle.std.specs.Vec.{with_items}
use Rattle.std.proofs.lemmas.List.{length-set, with_items_is}
use Rattle.rendering_tree.specs.Trees.{Elem}
use Rattle.rendering_tree.specs.Views.{meta_view, child_view, element_view, children_view, tree_view}
use Rattle.rendering_tree.specs.declared.element.Elem.{Elem as Code, roll-Elem}
use Rattle.rendering_tree.specs.declared.element.ElemChild.{ElemChild, the_lemmas}
use Rattle.rendering_tree.specs.declared.element.ElemChild.TheOpen.{Elem-F}
use Rattle.rendering_tree.specs.declared.element.ElemChildren.{ElemChildren, roll-ElemChildren}
use Rattle.rendering_tree.proofs.TreesParting.{unvisited_on}
use Rattle.rendering_tree.proofs.ViewsLevels.{child-Elem, child_rolled, tree_rolled}
use Rattle.driver_bibliography.specs.Views.{as_child, children_for, repeated_view}
use Rattle.driver_bibliography.proofs.ChangedSteps.{passing_ends, passed_names, found_names, changes_in, names_inside}
use Rattle.driver_bibliography.proofs.substitute.+changing.Goals as goal

pub change_names-loop-part-preserved : goal.change_names-loop-part-preserved
change_names-loop-part-preserved t c =
    let xs = c.loop-part.parts in
    let i = c.loop-part.part-index in
    let d = c.part-item.result in
    let y = c.change_names_in.new.part in
    let less : i < length xs = omega (arith, c.loop-part-test.true, c.loop-part.invariant.0.0) in (
      (length-set xs i y ∙ c.loop-part.invariant.0.0, unvisited_on c.args.parts.now xs (set xs i y) i y refl c.loop-part.invariant.0.1),
      passed_names (children_for (chars c.args.text.now) (repeated_view c.args.repeated)) c.args.parts.now xs i (get_or xs i d) d y c.loop-part.invariant.1 less refl
          c.in_ok-change_names_in.field-0 c.in_ok-change_names_in.ensures c.if-branch.false,
    )

pub change_names-returns-then-branch : goal.change_names-returns-then-branch
change_names-returns-then-branch t c =
    let xs = c.loop-part.parts in
    let i = c.loop-part.part-index in
    let d = c.part-item.result in
    let less : i < length xs = omega (arith, c.loop-part-test.true, c.loop-part.invariant.0.0) in
    found_names (children_for (chars c.args.text.now) (repeated_view c.args.repeated)) c.args.parts.now xs i (get_or xs i d) d c.change_names_in.new.part c.loop-part.invariant.1 less refl
    c.in_ok-change_names_in.field-0 c.in_ok-change_names_in.ensures c.if-branch.true

pub change_names-returns : goal.change_names-returns
change_names-returns t c =
    let all : length c.loop-part.parts ≤ c.loop-part.part-index = omega (arith, c.loop-part-test.false, c.loop-part.invariant.0.0) in
    passing_ends (children_for (chars c.args.text.now) (repeated_view c.args.repeated)) c.args.parts.now c.loop-part.parts c.loop-part.part-index c.loop-part.invariant.1 all

pub change_names_in-returns-in-Elem : goal.change_names_in-returns-in-Elem
change_names_in-returns-in-Elem t c =
    changes_in (children_for (chars c.args.text.now) (repeated_view c.args.repeated)) c.change_names_of.result {now = as_child (element_view c.change_names_of.new.elem)}
    (search (rules, the_lemmas, c.in-Elem.is))
    (ap (λ (f : Code). as_child (element_view f)) c.in-Elem.elem-is ∙ sym (ap child_view c.in-Elem.is ∙ child-Elem c.in-Elem.elem))
    c.change_names_of.ensures

pub change_names_of-returns : goal.change_names_of-returns
change_names_of-returns t c =
    let e = c.args.elem.now in
    let long : length c.change_names.new.parts ≡ c.args.elem.now.children.0.len = c.change_names.auto.parts ∙ ap length c.deref_mut.ensures.value ∙ sym c.args.elem.now.children.0.ok.0 in
    let r : Elem-F ElemChild Code ElemChildren = record { children = roll-ElemChildren (record { 0 = with_items c.args.elem.now.children.0 c.change_names.new.parts }); display = c.args.elem.now.display; meta = c.args.elem.now.meta } in
    names_inside (children_for (chars c.args.text.now) (repeated_view c.args.repeated)) e.display (option_map meta_view e.meta) (tree_view e.children) c.change_names.result (children_view c.deref_mut.result.now) (children_view c.change_names.new.parts)
    (sym c.is_names.ensures ∙ c.if-is_names.false)
    (sym (child-Elem (roll-Elem r)) ∙ child_rolled r ∙ ap (Elem e.display (option_map meta_view e.meta)) (tree_rolled (record { 0 = with_items c.args.elem.now.children.0 c.change_names.new.parts }) ∙ ap children_view (with_items_is c.args.elem.now.children.0 c.change_names.new.parts long)))
    (ap children_view c.deref_mut.ensures.value) c.change_names.ensures
