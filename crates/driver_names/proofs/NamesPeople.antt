-- People of trees, and people compared one after the other.
use Rattle.std.proofs.Common.{◌≡◌, ℕ, ◌+◌, ◌<◌, List, ◌++◌, drop, length, get_or, sym, ap, ◌∙◌}
use Rattle.std.specs.List.{flat_map}
use Rattle.std.proofs.lemmas.List.{append-nil, at_drop_more}
use Rattle.std.proofs.lemmas.List.Concat.{flat_map-append}
use Rattle.rendering_tree.specs.Trees.{before, nothing, elements, elements_in}
use Rattle.rendering_tree.specs.Views.{child_view, children_view}
use Rattle.rendering_tree.specs.declared.element.ElemChild.{ElemChild}
use Rattle.driver_names.specs.Names.{people_in, people_of_meta}

-- the people of a part of a tree, and those of what follows it
pub people_in-more : (xs : List ElemChild) (i : ℕ) (x : ElemChild) → i < length xs → x ≡ get_or xs i x
    → people_in (children_view (drop i xs)) ≡ people_in (before (child_view x) nothing) ++ people_in (children_view (drop (i + 1) xs))
people_in-more xs i x low is =
    let rest = children_view (drop (i + 1) xs) in
    at_drop_more (λ ys. people_in (children_view ys)) xs i x low
    ∙ ap (λ y. people_in (before (child_view y) rest)) (sym is)
    ∙ flat_map-append (λ e. people_of_meta e.meta) (elements_in (child_view x)) (elements rest)
    ∙ ap (λ es. flat_map (λ e. people_of_meta e.meta) es ++ people_in rest) (sym (append-nil (elements_in (child_view x))))
