use Rattle.std.proofs.Common.{◌≡◌, Bool, drop, Bor}
use Rattle.rendering_tree.specs.Trees.{Element, element_by}
use Rattle.rendering_tree.specs.Views.{element_view, children_view, tree_view}
use Rattle.rendering_tree.specs.contracts.element.ElemChildren.find_elem_by.F-Fn as calls
use Rattle.rendering_tree.specs.declared.element.Elem.{Elem}
use Rattle.rendering_tree.proofs.element.+find.Given as goal

abbrev pub invariant-ElemChildren::find_elem_by-loop-part : goal.invariant-ElemChildren::find_elem_by-loop-part
invariant-ElemChildren::find_elem_by-loop-part g l =
    (test : Element → Bool) → ((e : Bor Elem) (b : Bool) → (calls.words g.row.F g.F.Fn).post l.f e b → b ≡ test (element_view e.now))
    → element_by test (children_view (drop l.part-index l.self.0.items)) ≡ element_by test (tree_view l.self)
