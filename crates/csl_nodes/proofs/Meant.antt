-- What the elements in an element mean, as a loop goes over them.
use Rattle.std.proofs.Common.{◌≡◌, ℕ, ◌+◌, ◌<◌, ◌≤◌, List, [], ◌∷◌, ◌++◌, length, map, take, get_or, String, Global, Option, Some, None, refl, sym, ap, ◌∙◌}
use Rattle.std.proofs.lemmas.List.{map-append, take_all}
use Rattle.std.specs.List.{filter_map, cons_option}
use Rattle.std.specs.Option.{option_map, option_to_list}
use Rattle.laws.specs.Text.{characters}
use Rattle.xml_tree.specs.Trees as trees
use Rattle.xml_tree.specs.Trees.{Content, Last, Next, content_of}
use Rattle.xml_tree.specs.Views.{element_view, children_of}
use Rattle.xml_tree.specs.declared.tree.Element.{Element}
use Rattle.csl_words.proofs.Kept.{keeps_on}

-- what an element that the code has means
abbrev pub of_child : {V : Type 0} → (trees.Element → V) → String Global × Element → V
of_child h p = h (element_view p.1)

-- elements one after the other
pub meant_listed : {V : Type 0} (F : Content → List V) (h : trees.Element → Option V) → ((t : List ℕ) → F (Last t) ≡ []) → ((t : List ℕ) (e : trees.Element) (c : Content) → F (Next t e c) ≡ cons_option (h e) (F c))
    → (ps : List (String Global × Element)) (t : List ℕ) → F (content_of (children_of ps) t) ≡ filter_map (of_child h) ps
meant_listed F h none some [] t = none t
meant_listed {V} F h none some (p ∷ ps) t =
    some (characters p.0) (element_view p.1) (content_of (children_of ps) t) ∙ ap (cons_option (h (element_view p.1))) (meant_listed F h none some ps t)

-- what may be there, under a view
pub list_viewed : {Y V : Type 0} (view : Y → V) (o : Option Y) → map view (option_to_list o) ≡ option_to_list (option_map view o)
list_viewed view None = refl
list_viewed view (Some y) = refl

-- what was appended, under a view
pub pushed_viewed : {Y V : Type 0} (view : Y → V) (old new : List Y) (made : Option Y) → new ≡ old ++ option_to_list made → map view new ≡ map view old ++ option_to_list (option_map view made)
pushed_viewed {Y} {V} view old new made pushed = ap (map view) pushed ∙ (map-append view old (option_to_list made) ∙ ap (λ (vs : List V). map view old ++ vs) (list_viewed view made))

-- one element more
pub means_on : {Y V : Type 0} (view : Y → V) (h : trees.Element → Option V) (ps : List (String Global × Element)) (i : ℕ) (p : String Global × Element) (old new : List Y) (made : Option Y)
    → i < length ps → p ≡ get_or ps i p → map view old ≡ filter_map (of_child h) (take i ps) → option_map view made ≡ h (element_view p.1) → new ≡ old ++ option_to_list made
    → map view new ≡ filter_map (of_child h) (take (i + 1) ps)
means_on {Y} {V} view h ps i p old new made less is so_far meant pushed =
    keeps_on view (of_child h) ps i p old new less is so_far (pushed_viewed view old new made pushed ∙ ap (λ (o : Option V). map view old ++ option_to_list o) meant)

-- all elements
pub means_all : {Y V : Type 0} (view : Y → V) (F : Content → List V) (h : trees.Element → Option V) → ((t : List ℕ) → F (Last t) ≡ []) → ((t : List ℕ) (e : trees.Element) (c : Content) → F (Next t e c) ≡ cons_option (h e) (F c))
    → (ps : List (String Global × Element)) (t : List ℕ) (i : ℕ) (all : List Y) → length ps ≤ i → map view all ≡ filter_map (of_child h) (take i ps) → map view all ≡ F (content_of (children_of ps) t)
means_all {Y} {V} view F h none some ps t i all past so_far = so_far ∙ (ap (filter_map (of_child h)) (take_all i ps past) ∙ sym (meant_listed F h none some ps t))
