use Rattle.std.proofs.Common.{get_or, rules, arith, ap, ◌∙◌}
use Rattle.rendering_tree.specs.Trees.{names_element}
use Rattle.rendering_tree.specs.Views.{element_view, children_view}
use Rattle.rendering_tree.proofs.TreesFinding.{has_names, found_in, found_later}
use Rattle.rendering_tree.proofs.element.+find_mut.Goals as goal

pub ElemChildren::find_names_mut-returns-in-Some : goal.ElemChildren::find_names_mut-returns-in-Some
ElemChildren::find_names_mut-returns-in-Some t c =
    let i = c.loop-part.part-index in
    let d = c.part-item.result in
    let x = get_or c.loop-part.part-items i d in
    found_in has_names c.deref_mut-part-items.result.now i x d (element_view c.in-Some.found.now) c.loop-part-test.true (c.loop-part.invariant.0.1 i d (omega arith)) c.in-Some.ensures
    ∙ c.loop-part.invariant.1
    ∙ ap (λ xs. names_element (children_view xs)) c.deref_mut-part-items.ensures.value

pub ElemChildren::find_names_mut-loop-part-preserved : goal.ElemChildren::find_names_mut-loop-part-preserved
ElemChildren::find_names_mut-loop-part-preserved t c =
    let i = c.loop-part.part-index in
    let d = c.part-item.result in
    let x = get_or c.loop-part.part-items i d in (
      search rules,
      found_later has_names c.deref_mut-part-items.result.now i x d c.loop-part-test.true (c.loop-part.invariant.0.1 i d (omega arith)) c.in_default.ensures ∙ c.loop-part.invariant.1,
    )
