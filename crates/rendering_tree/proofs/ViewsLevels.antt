-- One level of the view of a tree.
use Rattle.std.proofs.Common.{◌≡◌, rules}
use Rattle.std.specs.Option.{option_map}
use Rattle.laws.specs.Text.{characters}
use Rattle.rendering_tree.specs.Trees as trees
use Rattle.rendering_tree.specs.Views.{meta_view, child_view, children_view, tree_view}
use Rattle.rendering_tree.specs.declared.element.Formatted.{Formatted}
use Rattle.rendering_tree.specs.declared.element.Elem.{Elem, roll-Elem}
use Rattle.rendering_tree.specs.declared.element.ElemChild.{ElemChild, the_lemmas}
use Rattle.rendering_tree.specs.declared.element.ElemChild.TheOpen.{Elem-F, ElemChildren-F}
use Rattle.rendering_tree.specs.declared.element.ElemChild.TheVariants as parts
use Rattle.rendering_tree.specs.declared.element.ElemChildren.{ElemChildren, roll-ElemChildren}

pub child-Text : (t : Formatted) → child_view (parts.Text t) ≡ trees.Text t.formatting (characters t.text)
child-Text t = search (rules, the_lemmas)

pub child-Elem : (e : Elem) → child_view (parts.Elem e) ≡ trees.Elem e.display (option_map meta_view e.meta) (tree_view e.children)
child-Elem e = search (rules, the_lemmas)

-- an element that was put together
pub child_rolled : (r : Elem-F ElemChild Elem ElemChildren) → child_view (parts.Elem (roll-Elem r)) ≡ trees.Elem r.display (option_map meta_view r.meta) (tree_view r.children)
child_rolled r = search (rules, the_lemmas)

-- a list that was put together
pub tree_rolled : (r : ElemChildren-F ElemChild Elem ElemChildren) → tree_view (roll-ElemChildren r) ≡ children_view r.0.items
tree_rolled r = search (rules, the_lemmas)
