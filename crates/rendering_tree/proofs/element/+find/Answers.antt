use Rattle.std.proofs.Common.{◌+◌, drop, sym, ap, ◌∙◌}
use Rattle.rendering_tree.specs.Trees.{element_by}
use Rattle.rendering_tree.specs.Views.{element_view, children_view}
use Rattle.rendering_tree.proofs.TreesFinding.{found_in, found_later}
use Rattle.rendering_tree.proofs.element.+find.Goals as goal

pub ElemChildren::find_elem_by-returns-in-Some : goal.ElemChildren::find_elem_by-returns-in-Some
ElemChildren::find_elem_by-returns-in-Some g t c = λ test says.
    let i = c.loop-part.part-index in
    found_in test c.deref-part-items.result.now i c.part-item.result c.part-item.result (element_view c.in-Some.found.now) c.loop-part-test.true c.part-item.is (c.in-Some.ensures test says)
    ∙ ap (λ xs. element_by test (children_view (drop i xs))) c.deref-part-items.ensures.value
    ∙ c.loop-part.invariant test says

pub ElemChildren::find_elem_by-loop-part-preserved : goal.ElemChildren::find_elem_by-loop-part-preserved
ElemChildren::find_elem_by-loop-part-preserved g t c = λ test says.
    let i = c.loop-part.part-index in
    sym (ap (λ xs. element_by test (children_view (drop (i + 1) xs))) c.deref-part-items.ensures.value)
    ∙ found_later test c.deref-part-items.result.now i c.part-item.result c.part-item.result c.loop-part-test.true c.part-item.is (c.in_default.ensures test says)
    ∙ ap (λ xs. element_by test (children_view (drop i xs))) c.deref-part-items.ensures.value
    ∙ c.loop-part.invariant test says
