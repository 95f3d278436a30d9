use Rattle.std.proofs.Common.{◌≡◌, ◌<◌, ◌≤◌, length, get_or, set, rules, refl, sym, ap, ◌∙◌, arith}
use Rattle.std.specs.Str.{chars}
use Rattle.std.specs.Option.{option_map}
use Rattle.std.specs.Vec.{with_items}
use Rattle.std.proofs.lemmas.List.{length-set, with_items_is}
use Rattle.rendering_tree.specs.Trees.{Elem}
use Rattle.rendering_tree.specs.Views.{meta_view, child_view, element_view, children_view, tree_view}
use Rattle.rendering_tree.specs.declared.element.Elem.{Elem as Code, roll-Elem}
use Rattle.rendering_tree.specs.declared.element.ElemChild.{ElemChild, the_lemmas}
use Rattle.rendering_tree.specs.declared.element.ElemChild.TheOpen.{Elem-F}
use Rattle.rendering_tree.specs.declared.element.ElemChildren.{ElemChildren, roll-ElemChildren}
use Rattle.rendering_tree.proofs.TreesParting.{unvisited_on}
use Rattle.rendering_tree.proofs.ViewsLevels.{child-Elem, child_rolled, tree_rolled}
use Rattle.driver_bibliography.specs.Substitution.{text_alone}
use Rattle.driver_bibliography.specs.Views.{as_child}
use Rattle.driver_bibliography.proofs.NamedSteps.{naming_begins, naming_goes_on, naming_ends, single_in, single_inside}
use Rattle.driver_bibliography.proofs.substitute.+singles.Goals as goal

pub change_singles-loop-part-init : goal.change_singles-loop-part-init
change_singles-loop-part-init t c = ((refl, λ k d le. refl), naming_begins (text_alone (chars c.args.text.now)) c.args.parts.now c.args.wanted)

pub change_singles-loop-part-preserved : goal.change_singles-loop-part-preserved
change_singles-loop-part-preserved t c =
    let xs = c.loop-part.parts in
    let i = c.loop-part.part-index in
    let d = c.part-item.result in
    let y = c.change_singles_in.new.part in
    let less : i < length xs = omega (arith, c.loop-part-test.true, c.loop-part.invariant.0.0) in (
      (length-set xs i y ∙ c.loop-part.invariant.0.0, unvisited_on c.args.parts.now xs (set xs i y) i y refl c.loop-part.invariant.0.1),
      naming_goes_on (text_alone (chars c.args.text.now)) c.args.parts.now c.args.wanted xs i c.loop-part.left (get_or xs i d) d y c.in_ok-left.left c.loop-part.invariant.1 less refl c.in_ok-left.ensures,
    )

pub change_singles-returns : goal.change_singles-returns
change_singles-returns t c =
    let all : length c.loop-part.parts ≤ c.loop-part.part-index = omega (arith, c.loop-part-test.false, c.loop-part.invariant.0.0) in
    naming_ends (text_alone (chars c.args.text.now)) c.args.parts.now c.args.wanted c.loop-part.parts c.loop-part.part-index c.loop-part.left c.loop-part.invariant.1 all

pub change_singles_in-returns-in-Elem : goal.change_singles_in-returns-in-Elem
change_singles_in-returns-in-Elem t c =
    single_in (text_alone (chars c.args.text.now)) c.args.wanted c.change_single.result {now = as_child (element_view c.change_single.new.elem)}
    (search (rules, the_lemmas, c.in-Elem.is))
    (ap (λ (f : Code). as_child (element_view f)) c.in-Elem.elem-is ∙ sym (ap child_view c.in-Elem.is ∙ child-Elem c.in-Elem.elem))
    c.change_single.ensures

pub change_single-returns : goal.change_single-returns
change_single-returns t c =
    let e = c.args.elem.now in
    let long : length c.change_singles.new.parts ≡ c.args.elem.now.children.0.len = c.change_singles.auto.parts ∙ ap length c.deref_mut.ensures.value ∙ sym c.args.elem.now.children.0.ok.0 in
    let r : Elem-F ElemChild Code ElemChildren = record { children = roll-ElemChildren (record { 0 = with_items c.args.elem.now.children.0 c.change_singles.new.parts }); display = c.args.elem.now.display; meta = c.args.elem.now.meta } in
    single_inside (text_alone (chars c.args.text.now)) e.display (option_map meta_view e.meta) (tree_view e.children) c.args.wanted c.change_singles.result (children_view c.deref_mut.result.now) (children_view c.change_singles.new.parts)
    c.if-wanted-eq0.false (sym c.is_name.ensures ∙ c.if-is_name.false)
    (sym (child-Elem (roll-Elem r)) ∙ child_rolled r ∙ ap (Elem e.display (option_map meta_view e.meta)) (tree_rolled (record { 0 = with_items c.args.elem.now.children.0 c.change_singles.new.parts }) ∙ ap children_view (with_items_is c.args.elem.now.children.0 c.change_singles.new.parts long)))
    (ap children_view c.deref_mut.ensures.value) c.change_singles.ensures
