use Rattle.std.proofs.Common.{◌≡◌, drop}
use Rattle.rendering_tree.specs.Trees.{names_element}
use Rattle.rendering_tree.specs.Views.{children_view}
use Rattle.rendering_tree.proofs.element.+find_mut.Given as goal

abbrev pub invariant-ElemChildren::find_names_mut-loop-part : goal.invariant-ElemChildren::find_names_mut-loop-part
invariant-ElemChildren::find_names_mut-loop-part l =
    goal.unvisited-ElemChildren::find_names_mut-loop-part l × (names_element (children_view (drop l.part-index l.initial.part-items)) ≡ names_element (children_view l.initial.part-items))
