-- The tags of a list from one of its children on.
use Rattle.std.proofs.Common.{◌≡◌, ℕ, ◌+◌, ◌<◌, List, ◌++◌, drop, length, get_or, sym, ap, ◌∙◌}
use Rattle.std.proofs.lemmas.List.{at_drop_more}
use Rattle.rendering_tree.specs.Views.{child_view, children_view}
use Rattle.rendering_tree.specs.Writing.{tags, tags_in}
use Rattle.rendering_tree.specs.declared.element.ElemChild.{ElemChild}

-- those of the child, and those of the children after it
pub tags-more : (xs : List ElemChild) (i : ℕ) (x d : ElemChild) → i < length xs → x ≡ get_or xs i d → tags (children_view (drop i xs)) ≡ tags_in (child_view x) ++ tags (children_view (drop (i + 1) xs))
tags-more xs i x d less is =
    at_drop_more (λ ys. tags (children_view ys)) xs i d less
    ∙ ap (λ y. tags_in (child_view y) ++ tags (children_view (drop (i + 1) xs))) (sym is)
