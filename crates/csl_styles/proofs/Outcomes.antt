-- What reading a text comes to, step by step.
use Rattle.std.proofs.Common.{◌≡◌, ℕ, Bool, true, false, cond, codes, List, [], Option, Some, None, Result, Ok, Err, refl, sym, ap, ◌∙◌, subst, IfSome}
use Rattle.laws.specs.Results.{GivesBack, EndsWith}
use Rattle.xml_tree.specs.Trees.{Element}
use Rattle.xml_tree.specs.Grammar.{Spells}
use Rattle.xml_tree.specs.Building.{tree_of}
use Rattle.xml_tree.specs.Views as trees
use Rattle.xml_tree.specs.declared.error.TreeError.{TreeError}
use Rattle.xml_tree.specs.declared.error.TreeError.TheVariants as tree_errors
use Rattle.xml_schema.specs.Faults.{name_of, first_of}
use Rattle.xml_schema.proofs.Firsts.{none_first}
use Rattle.rendering_style.specs.Opening as styles
use Rattle.rendering_style.specs.Opening.{IsAnswer}
use Rattle.rendering_style.specs.Styles.{Style}
use Rattle.csl_words.specs.Elements.{is_called}
use Rattle.csl_locales.specs.Locales.{locale}
use Rattle.csl_styles.specs.Faults.{Fault, faults, placed_in}
use Rattle.csl_styles.specs.Files as files
use Rattle.csl_styles.specs.Files.{Independent, localized, style_by, meaning}
use Rattle.csl_styles.specs.Information.{parent_of}
use Rattle.csl_styles.specs.Outcomes.{text_error, IsPlaced, IsStyleRefused, IsReadAs, IsTreeRefused, IsChecked}
use Rattle.csl_styles.specs.Reading.{Refusal, OfText, OfTree, OfStyle, IsAnswered, MeansBy, IsRefused}
use Rattle.csl_styles.specs.Styles.{style}
use Rattle.csl_styles.specs.Views.{refusal_of}
use Rattle.csl_styles.specs.declared.error.CslError.{CslError}
use Rattle.csl_styles.specs.declared.file.Csl.{Csl}
use Rattle.csl_styles.proofs.Answering.{answered_once}

-- the refusal of a style, at its place
pub placed_refused : (x : Element) (parts : Style) (r : Option styles.Refusal) (q : Option Refusal) → IsPlaced x r q → IfSome r (λ (s : styles.Refusal). IsAnswer parts (Some s))
    → IfSome q (IsStyleRefused x (Independent [] parts))
placed_refused x parts r None placed answered = tt
placed_refused x parts r (Some q) placed answered =
    subst (λ (z : Refusal). IsStyleRefused x (Independent [] parts) z) (sym placed.2) (subst (λ (o : Option styles.Refusal). IfSome o (λ (s : styles.Refusal). IsAnswer parts (Some s))) placed.1 answered, refl)

-- the words of a style do not count for its refusal
pub refused_with : (x : Element) (words : List (List ℕ)) (parts other : Style) (q : Option Refusal) → parts ≡ other → IfSome q (IsStyleRefused x (Independent [] parts))
    → IfSome q (IsStyleRefused x (Independent words other))
refused_with x words parts other None same h = tt
refused_with x words parts other (Some (OfText r)) same h = h
refused_with x words parts other (Some (OfTree f)) same h = h
refused_with x words parts other (Some (OfStyle r left)) same h = (subst (λ (s : Style). IsAnswer s (Some r)) same h.0, h.1)

-- a style that is not refused, by the words of terms that no list has
pub read_style : (x : Element) (ws us : List (List ℕ)) (parts s : Style) → ws ≡ us → parts ≡ style ws x → s ≡ parts → IsAnswer parts None
    → (Independent ws s ≡ Independent us (style us x)) × IsAnswer (style us x) None
read_style x ws us parts s words made same answer =
    let whole : parts ≡ style us x = made ∙ ap (λ (w : List (List ℕ)). style w x) words in
    let here : s ≡ style us x = same ∙ whole in
    ((λ j. Independent (words j) (here j)), subst (λ (p : Style). IsAnswer p None) whole answer)

-- a root is a locale, or else a style
pub locale_meant : (x : Element) → is_called (codes "locale") (name_of x) ≡ true → localized x ≡ meaning x
locale_meant x is = sym (ap (λ (b : Bool). cond b (localized x) (style_by (parent_of x) x)) is)

pub style_meant : (x : Element) (o : Option (List ℕ)) → is_called (codes "locale") (name_of x) ≡ false → o ≡ parent_of x → style_by o x ≡ meaning x
style_meant x o is same = ap (λ (p : Option (List ℕ)). style_by p x) same ∙ sym (ap (λ (b : Bool). cond b (localized x) (style_by (parent_of x) x)) is)

-- a tree without a fault
pub checked_by : (t : List ℕ) (x : Element) (r : Result Csl CslError) → None ≡ first_of (faults x) → IsReadAs x (meaning x) r → IsChecked t x r
checked_by t x (Ok c) none h = (none_first (faults x) none, h.0, h.1)
checked_by t x (Err e) none h = by_refusal (refusal_of e) h
  where
    by_refusal : (q : Option Refusal) → IfSome q (IsStyleRefused x (meaning x)) → IfSome q (IsTreeRefused t x)
    by_refusal None g = tt
    by_refusal (Some (OfText r)) g = absurd g
    by_refusal (Some (OfTree f)) g = absurd g
    by_refusal (Some (OfStyle r left)) g = (none_first (faults x) none, g.0, g.1)

-- a tree with a first fault
pub checked_refused : (t : List ℕ) (x : Element) (f : Fault) (q : Option Refusal) → Some f ≡ first_of (faults x) → IfSome q (λ r. r ≡ OfTree (placed_in t f)) → IfSome q (IsTreeRefused t x)
checked_refused t x f None some placed = tt
checked_refused t x f (Some r) some placed = subst (λ (q : Refusal). IsTreeRefused t x q) (sym placed) (f, sym some, refl)

-- what a text means, and why it is refused, by the tree that it spells
pub means_by : (x : Element) (t : List ℕ) (c : files.Csl) → Spells x t → (faults x ≡ []) × (c ≡ meaning x) × IsAnswered (meaning x) None → MeansBy t x c
means_by x t c spelled h = (spelled, h.0, sym h.1, subst (λ (m : files.Csl). IsAnswered m None) (sym h.1) h.2)

pub refused_by : (x : Element) (t : List ℕ) (q : Option Refusal) → Spells x t → IfSome q (IsTreeRefused t x) → IfSome q (IsRefused t)
refused_by x t None spelled g = tt
refused_by x t (Some (OfText r)) spelled g = absurd g
refused_by x t (Some (OfTree f)) spelled g = (x, spelled, g)
refused_by x t (Some (OfStyle r left)) spelled g = (x, spelled, g.0, g.1, g.2)

-- a tree without a fault whose style is not refused is not refused
pub not_refused : (t : List ℕ) (x : Element) (q : Option Refusal) → IfSome q (IsTreeRefused t x) → faults x ≡ [] → IsAnswered (meaning x) None → q ≡ None
not_refused t x None g none taken = refl
not_refused t x (Some (OfText r)) g none taken = absurd g
not_refused t x (Some (OfTree f)) (first, is, placed) none taken =
    let all : first_of (faults x) ≡ None = ap first_of none in
    absurd cc
not_refused t x (Some (OfStyle r left)) g none taken = absurd (answered_once (meaning x) r taken g.1)

-- what was given back for a tree is that for the tree of the text
pub given_for : {V : Type 0} (r : Result V CslError) (view : V → files.Csl) (x y : Element) → x ≡ y → (faults x ≡ [] → IsAnswered (meaning x) None → GivesBack refusal_of view r (meaning x)) → faults y ≡ []
    → IsAnswered (meaning y) None → GivesBack refusal_of view r (meaning y)
given_for r view x y same given = subst (λ (z : Element). faults z ≡ [] → IsAnswered (meaning z) None → GivesBack refusal_of view r (meaning z)) same given

-- a text that spells no tree
pub text_refused : (t : List ℕ) (e : TreeError) → EndsWith (trees.refusal_of e) (tree_of t) → IfSome (refusal_of (text_error e)) (IsRefused t)
text_refused t tree_errors.Memory h = tt
text_refused t (tree_errors.Fault fault left) h = h

pub text_none : (e : TreeError) → trees.refusal_of e ≡ None → refusal_of (text_error e) ≡ None
text_none tree_errors.Memory h = refl
text_none (tree_errors.Fault fault left) h = absurd cc
