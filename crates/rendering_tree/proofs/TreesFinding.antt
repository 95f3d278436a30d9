-- Looking for elements.
use Rattle.std.proofs.Common.{◌≡◌, ℕ, ◌+◌, ◌<◌, ◌≤◌, Bool, true, false, cond, List, [], ◌∷◌, ◌++◌, drop, length, get_or, refl, sym, ap, ◌∙◌, Option, Some, None}
use Rattle.std.specs.Option.{option_or, option_map_or}
use Rattle.std.specs.List.{find}
use Rattle.std.proofs.lemmas.List.{at_drop_more, at_drop_all}
use Rattle.rendering_tree.specs.Metas.{is_names}
use Rattle.rendering_tree.specs.Trees.{Child, Children, before, Element, elements_in, elements, element_by}
use Rattle.rendering_tree.specs.Views.{child_view, children_view}
use Rattle.rendering_tree.specs.declared.element.ElemChild.{ElemChild}

find_step : {X : Type 0} (b : Bool) (x : X) (first rest all : Option X) → all ≡ option_or first rest → cond b (Some x) all ≡ option_or (cond b (Some x) first) rest
find_step true x first rest all e = refl
find_step false x first rest all e = e

-- what is found in two lists one after the other
pub find-append : {X : Type 0} (test : X → Bool) (xs ys : List X) → find test (xs ++ ys) ≡ option_or (find test xs) (find test ys)
find-append test [] ys = refl
find-append test (x ∷ xs) ys = find_step (test x) x (find test xs) (find test ys) (find test (xs ++ ys)) (find-append test xs ys)

-- what is found in a child, or else in those after it
pub element_by-before : (test : Element → Bool) (x : Child) (xs : Children) → element_by test (before x xs) ≡ option_or (find test (elements_in x)) (element_by test xs)
element_by-before test x xs = find-append test (elements_in x) (elements xs)

-- whether an element stands for a names node
abbrev pub has_names : Element → Bool
has_names e = option_map_or is_names e.meta false

module _ (test : Element → Bool) (xs : List ElemChild) (i : ℕ) (x d : ElemChild) where
  found_first : i < length xs → x ≡ get_or xs i d → element_by test (children_view (drop i xs)) ≡ option_or (find test (elements_in (child_view x))) (element_by test (children_view (drop (i + 1) xs)))
  found_first less is =
      at_drop_more (λ ys. element_by test (children_view ys)) xs i d less
      ∙ element_by-before test (child_view (get_or xs i d)) (children_view (drop (i + 1) xs))
      ∙ ap (λ y. option_or (find test (elements_in (child_view y))) (element_by test (children_view (drop (i + 1) xs)))) (sym is)

  -- what is found in a child is found in the list from it on
  pub found_in : (e : Element) → i < length xs → x ≡ get_or xs i d → Some e ≡ find test (elements_in (child_view x)) → Some e ≡ element_by test (children_view (drop i xs))
  found_in e less is f = ap (λ o. option_or o (element_by test (children_view (drop (i + 1) xs)))) f ∙ sym (found_first less is)

  -- where nothing is found in a child, the list after it has what the list from it on has
  pub found_later : i < length xs → x ≡ get_or xs i d → None ≡ find test (elements_in (child_view x)) → element_by test (children_view (drop (i + 1) xs)) ≡ element_by test (children_view (drop i xs))
  found_later less is f = ap (λ o. option_or o (element_by test (children_view (drop (i + 1) xs)))) f ∙ sym (found_first less is)

-- after all nothing is found
pub found_none : (test : Element → Bool) (xs : List ElemChild) (i : ℕ) → length xs ≤ i → element_by test (children_view (drop i xs)) ≡ None
found_none test xs i le = at_drop_all (λ ys. element_by test (children_view ys)) xs i le
