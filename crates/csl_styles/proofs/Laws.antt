-- What a text means, and why it is refused, is one thing.
use Rattle.std.proofs.Common.{◌≡◌, ℕ, ◌<◌, ◌⊎◌, inl, inr, List, [], Option, Some, None, Result, Ok, Err, slice_get, option_map, refl, sym, ap, ◌∙◌, subst}
use Rattle.std.proofs.lemmas.Bool.{cases_order}
use Rattle.xml_tree.specs.Trees.{Element}
use Rattle.xml_tree.specs.Values as trees
use Rattle.xml_tree.specs.Grammar.{Spells}
use Rattle.xml_tree.specs.Building.{tree_of}
use Rattle.xml_tree.proofs.SpelledAgain.{tree_is}
use Rattle.xml_schema.specs.Faults.{first_of}
use Rattle.rendering_style.specs.Opening as styles
use Rattle.rendering_style.specs.Opening.{IsAnswer, IsFirstRing, macro_ring, too_deep}
use Rattle.rendering_style.specs.Styles.{Macro, Style}
use Rattle.csl_styles.specs.Faults.{Fault, faults, placed_in}
use Rattle.csl_styles.specs.Files.{Csl, Dependent, Independent, Localized, meaning}
use Rattle.csl_styles.specs.Reading.{Refusal, OfText, OfTree, OfStyle, blamed, IsAnswered, Means, IsRefused}
use Rattle.csl_styles.proofs.Answering.{answered_once}

same_ok : {A F : Type 0} (r : Result A F) (x y : A) → r ≡ Ok x → r ≡ Ok y → x ≡ y
same_ok r x y e f = cc

-- the tree of a text
one_tree : (t : List ℕ) (x y : Element) → Spells x t → Spells y t → x ≡ y
one_tree t x y s u = same_ok (tree_of t) x y (tree_is t x s) (tree_is t y u)

pub one_file : (t : List ℕ) (c d : Csl) → Means t c → Means t d → c ≡ d
one_file t c d (x, (s, f, m, a)) (y, (u, g, n, b)) = sym m ∙ (ap meaning (one_tree t x y s u) ∙ n)

-- the first ring
one_ring : (ms : List Macro) (i j : ℕ) → IsFirstRing ms i → IsFirstRing ms j → i ≡ j
one_ring ms i j r q = elim (cases_order i j) [ inl e ↦ e | inr o ↦ elim o [ inl l ↦ absurd (q.first i l r.ring) | inr l ↦ absurd (r.first j l q.ring) ] ]

same_some : {A : Type 0} (o : Option A) (x y : A) → o ≡ Some x → o ≡ Some y → x ≡ y
same_some o x y e f = cc

one_name : (ms : List Macro) (i j : ℕ) (a b : List ℕ) → i ≡ j → option_map (λ (m : Macro). m.name) (slice_get ms i) ≡ Some a → option_map (λ (m : Macro). m.name) (slice_get ms j) ≡ Some b → a ≡ b
one_name ms i j a b e f g = same_some (option_map (λ (m : Macro). m.name) (slice_get ms j)) a b (sym (ap (λ (k : ℕ). option_map (λ (m : Macro). m.name) (slice_get ms k)) e) ∙ f) g

-- the refusal of a style
one_answer : (s : Style) (q r : styles.Refusal) → IsAnswer s (Some q) → IsAnswer s (Some r) → q ≡ r
one_answer s (macro_ring a) (macro_ring b) (i, f, m) (j, g, n) = ap macro_ring (one_name s.macros i j a b (one_ring s.macros i j f g) m n)
one_answer s (macro_ring a) too_deep (i, f, m) (none, deep) = absurd (none i f.ring)
one_answer s too_deep (macro_ring b) (none, deep) (j, g, n) = absurd (none j g.ring)
one_answer s too_deep too_deep p q = refl

one_answered : (c : Csl) (q r : styles.Refusal) → IsAnswered c (Some q) → IsAnswered c (Some r) → q ≡ r
one_answered (Dependent parent default) q r e f = absurd cc
one_answered (Independent words s) q r e f = one_answer s q r e f
one_answered (Localized words l) q r e f = absurd cc

-- a text that spells a tree is not refused as no tree
not_spelled : (t : List ℕ) (r : trees.Refusal) (x : Element) → tree_of t ≡ Err r → Spells x t → ⊥
not_spelled t r x e s =
    let is : tree_of t ≡ Ok x = tree_is t x s in
    cc

-- a tree with a first fault has faults
not_faultless : (x y : Element) (f : Fault) → x ≡ y → first_of (faults x) ≡ Some f → faults y ≡ [] → ⊥
not_faultless x y f same first none =
    let all : first_of (faults x) ≡ None = ap (λ (z : Element). first_of (faults z)) same ∙ ap first_of none in
    cc

pub one_refusal : (t : List ℕ) (q r : Refusal) → IsRefused t q → IsRefused t r → q ≡ r
one_refusal t (OfText q) (OfText r) e f = cc
one_refusal t (OfText q) (OfTree g) e (x, s, (first, f, placed)) = absurd (not_spelled t q x e s)
one_refusal t (OfText q) (OfStyle r left) e (x, s, f, a, p) = absurd (not_spelled t q x e s)
one_refusal t (OfTree g) (OfText r) (x, s, (first, f, placed)) e = absurd (not_spelled t r x e s)
one_refusal t (OfTree g) (OfTree h) (x, s, (first, f, placed)) (y, u, (other, k, there)) =
    let same : first ≡ other = same_some (first_of (faults x)) first other f (ap (λ (z : Element). first_of (faults z)) (one_tree t x y s u) ∙ k) in
    ap OfTree (placed ∙ (ap (placed_in t) same ∙ sym there))
one_refusal t (OfTree g) (OfStyle r left) (x, s, (first, f, placed)) (y, u, none, a, p) = absurd (not_faultless x y first (one_tree t x y s u) f none)
one_refusal t (OfStyle q left) (OfText r) (x, s, none, a, p) e = absurd (not_spelled t r x e s)
one_refusal t (OfStyle q left) (OfTree g) (x, s, none, a, p) (y, u, (first, f, placed)) = absurd (not_faultless y x first (one_tree t y x u s) f none)
one_refusal t (OfStyle q left) (OfStyle r right) (x, s, none, a, p) (y, u, more, b, o) =
    let same : x ≡ y = one_tree t x y s u in
    let why : q ≡ r = one_answered (meaning x) q r a (subst (λ (z : Element). IsAnswered (meaning z) (Some r)) (sym same) b) in
    let place : left ≡ right = p ∙ ((λ i. blamed (why i) (same i)) ∙ sym o) in
    (λ i. OfStyle (why i) (place i))

pub not_means_refused : (t : List ℕ) (c : Csl) (r : Refusal) → Means t c → IsRefused t r → ⊥
not_means_refused t c (OfText r) (x, (s, none, m, a)) e = not_spelled t r x e s
not_means_refused t c (OfTree g) (x, (s, none, m, a)) (y, u, (first, f, placed)) = not_faultless y x first (one_tree t y x u s) f none
not_means_refused t c (OfStyle r left) (x, (s, none, m, a)) (y, u, more, b, p) =
    answered_once c r a (subst (λ (k : Csl). IsAnswered k (Some r)) (sym (ap meaning (one_tree t x y s u)) ∙ m) b)
