-- A field before other children.
use Rattle.std.proofs.Common.{◌≡◌, true≢false, List, ◌∷◌, ◌++◌, sym, ap, ◌∙◌, Some, None, is_some}
use Rattle.std.specs.Option.{option_map}
use Rattle.rendering_tree.specs.Parting.{taken, left}
use Rattle.rendering_tree.specs.Tokens.{Token}
use Rattle.rendering_tree.specs.Trees.{Children, Elem as Element, flat, flat_child, Parted, tree_of}
use Rattle.rendering_tree.specs.Views.{meta_view, children_view, tree_view}
use Rattle.rendering_tree.specs.declared.element.Elem.{Elem}
use Rattle.rendering_tree.specs.declared.element.ElemChild.{ElemChild}
use Rattle.rendering_tree.specs.declared.element.ElemChild.TheVariants as parts
use Rattle.rendering_tree.proofs.ViewsLevels.{child-Elem}
use Rattle.rendering_taxonomy.specs.declared.page.PageRule.{PageRule}
use Rattle.rendering.specs.Purposes.{in_front}

-- a field stands before others
pub before_others : (xs ys : List ElemChild) (e : Elem) → ys ≡ parts.Elem e ∷ xs → flat (children_view ys) ≡ flat (children_view xs) ++ flat_child (Element e.display (option_map meta_view e.meta) (tree_view e.children))
before_others xs ys e is = ap (λ zs. flat (children_view zs)) is ∙ ap (λ x. flat (children_view xs) ++ flat_child x) (child-Elem e)

-- where no element stands for something the tree is as it was
pub none_in_front : (rule : PageRule) (p : Parted) (ts : List Token) (whole new : Children) → None ≡ taken p → new ≡ left p whole → tree_of ts ≡ whole → new ≡ in_front rule ts p
none_in_front rule None ts whole new none rest same = rest ∙ sym same
none_in_front rule (Some q) ts whole new none rest same = absurd (true≢false (ap is_some (sym none)))
