-- The single names in a list of children.
use Rattle.std.proofs.Common.{◌≡◌, ℕ, ◌+◌, ◌<◌, ◌≤◌, List, ◌++◌, append_assoc, append-nil, length, filter, drop, get_or, sym, ap, ◌∙◌}
use Rattle.std.proofs.lemmas.List.{drop_more, drop_all}
use Rattle.std.proofs.lemmas.List.Elements.{filter-append}
use Rattle.rendering_tree.specs.Trees.{Element, elements, elements_in}
use Rattle.rendering_tree.specs.Views.{child_view, children_view}
use Rattle.rendering_tree.specs.declared.element.ElemChild.{ElemChild}
use Rattle.driver_bibliography.specs.Views.{is_single}

-- the single names in children from an index on
abbrev pub singles_from : List ElemChild → ℕ → List Element
singles_from xs i = filter is_single (elements (children_view (drop i xs)))

-- what was listed, and what is left to be, are what was listed at first and all
pub listing_goes_on : (xs : List ElemChild) (i : ℕ) (x : ElemChild) (all now new : List Element) → i < length xs → x ≡ get_or xs i x → now ++ singles_from xs i ≡ all
    → new ≡ now ++ filter is_single (elements_in (child_view x)) → new ++ singles_from xs (i + 1) ≡ all
listing_goes_on xs i x all now new less is h e =
    let rest = elements (children_view (drop (i + 1) xs)) in
    let own = elements_in (child_view x) in
    ap (λ ns. ns ++ filter is_single rest) e
    ∙ append_assoc now (filter is_single own) (filter is_single rest)
    ∙ ap (λ ns. now ++ ns) (sym (filter-append is_single own rest))
    ∙ ap (λ z. now ++ filter is_single (elements_in (child_view z) ++ rest)) is
    ∙ ap (λ ys. now ++ filter is_single (elements (children_view ys))) (sym (drop_more xs i x less))
    ∙ h

pub listing_ends : (xs : List ElemChild) (i : ℕ) (all now : List Element) → length xs ≤ i → now ++ singles_from xs i ≡ all → now ≡ all
listing_ends xs i all now le h = sym (append-nil now) ∙ ap (λ ys. now ++ filter is_single (elements (children_view ys))) (sym (drop_all i xs le)) ∙ h
