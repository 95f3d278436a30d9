use Rattle.std.proofs.Common.{map, take, sym, ap, ◌∙◌}
use Rattle.std.proofs.lemmas.List.{take_all}
use Rattle.rendering_tree.specs.Trees.{children_of}
use Rattle.rendering_tree.specs.Views.{child_view}
use Rattle.rendering_tree.proofs.ViewsLevels.{tree_rolled}
use Rattle.rendering_tree.proofs.copies.+copy.Goals as goal

pub copy_children-returns : goal.copy_children-returns
copy_children-returns t c =
    let i = c.loop-part.part-index in
    tree_rolled (record { 0 = c.loop-part.copies })
    ∙ ap children_of (c.loop-part.invariant
    ∙ ap (λ xs. map child_view (take i xs)) (sym c.deref-part-items.ensures.value)
    ∙ ap (map child_view) (take_all i c.deref-part-items.result.now c.loop-part-test.false)
    ∙ ap (map child_view) c.deref-part-items.ensures.value)
