-- The first macro of a name among elements, one after the other.
use Rattle.std.proofs.Common.{◌≡◌, ℕ, ◌+◌, ◌<◌, ◌≤◌, Bool, true, false, cond, ◌&&◌, List, [], ◌∷◌, length, drop, get_or, codes, String, Global, Option, Some, None, refl, sym, ap, ◌∙◌}
use Rattle.std.proofs.lemmas.List.{at_drop_more, at_drop_all}
use Rattle.std.specs.List.{find}
use Rattle.xml_tree.specs.Trees as trees
use Rattle.xml_tree.specs.Trees.{content_of}
use Rattle.xml_tree.specs.Views.{element_view, children_of}
use Rattle.xml_tree.specs.declared.tree.Element.{Element}
use Rattle.csl_locales.specs.Called.{all_called}
use Rattle.csl_styles.specs.Faults.{is_macro}

find_called : (p : trees.Element → Bool) (a : Bool) (e : trees.Element) (rest : List trees.Element) → find p (cond a (e ∷ rest) rest) ≡ cond (a && p e) (Some e) (find p rest)
find_called p true e rest = refl
find_called p false e rest = refl

-- macros from an index on
macros_at : (p : trees.Element → Bool) (ps : List (String Global × Element)) (i : ℕ) (q : String Global × Element) (t : List ℕ) → i < length ps → q ≡ get_or ps i q
    → find p (all_called (codes "macro") (content_of (children_of (drop i ps)) t))
    ≡ cond (is_macro (element_view q.1) && p (element_view q.1)) (Some (element_view q.1)) (find p (all_called (codes "macro") (content_of (children_of (drop (i + 1) ps)) t)))
macros_at p ps i q t less is =
    let rest : List trees.Element = all_called (codes "macro") (content_of (children_of (drop (i + 1) ps)) t) in
    at_drop_more (λ (qs : List (String Global × Element)). find p (all_called (codes "macro") (content_of (children_of qs) t))) ps i q less
    ∙ (sym (ap (λ (r : String Global × Element). find p (cond (is_macro (element_view r.1)) (element_view r.1 ∷ rest) rest)) is) ∙ find_called p (is_macro (element_view q.1)) (element_view q.1) rest)

pub named_on : (p : trees.Element → Bool) (ps : List (String Global × Element)) (i : ℕ) (q : String Global × Element) (t : List ℕ) (all : Option trees.Element) → i < length ps → q ≡ get_or ps i q
    → find p (all_called (codes "macro") (content_of (children_of (drop i ps)) t)) ≡ all → (is_macro (element_view q.1) && p (element_view q.1)) ≡ false
    → find p (all_called (codes "macro") (content_of (children_of (drop (i + 1) ps)) t)) ≡ all
named_on p ps i q t all less is so_far other =
    sym (macros_at p ps i q t less is ∙ ap (λ (b : Bool). cond b (Some (element_view q.1)) (find p (all_called (codes "macro") (content_of (children_of (drop (i + 1) ps)) t)))) other) ∙ so_far

pub named_here : (p : trees.Element → Bool) (ps : List (String Global × Element)) (i : ℕ) (q : String Global × Element) (t : List ℕ) (all : Option trees.Element) → i < length ps → q ≡ get_or ps i q
    → find p (all_called (codes "macro") (content_of (children_of (drop i ps)) t)) ≡ all → (is_macro (element_view q.1) && p (element_view q.1)) ≡ true → all ≡ Some (element_view q.1)
named_here p ps i q t all less is so_far same =
    sym so_far ∙ (macros_at p ps i q t less is ∙ ap (λ (b : Bool). cond b (Some (element_view q.1)) (find p (all_called (codes "macro") (content_of (children_of (drop (i + 1) ps)) t)))) same)

pub named_none : (p : trees.Element → Bool) (ps : List (String Global × Element)) (i : ℕ) (t : List ℕ) (all : Option trees.Element) → length ps ≤ i
    → find p (all_called (codes "macro") (content_of (children_of (drop i ps)) t)) ≡ all → all ≡ None
named_none p ps i t all past so_far = sym so_far ∙ at_drop_all (λ (qs : List (String Global × Element)). find p (all_called (codes "macro") (content_of (children_of qs) t))) ps i past
