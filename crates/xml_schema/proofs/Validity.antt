-- A tree that was checked, and the text that spells it.
use Rattle.std.proofs.Common.{◌≡◌, ℕ, List, [], Option, Some, None, Result, Ok, Err, refl, sym, ap, ◌∙◌, subst}
use Rattle.std.specs.Prelude.{IfOk, IfSome}
use Rattle.std.specs.Option.{option_map}
use Rattle.laws.specs.Results.{Gives, GivesBack, EndsWith}
use Rattle.xml_tree.specs.Trees as trees
use Rattle.xml_tree.specs.Grammar.{Spells}
use Rattle.xml_tree.specs.Views.{element_view, refusal_of as tree_refusal}
use Rattle.xml_tree.specs.declared.error.TreeError.{TreeError}
use Rattle.xml_tree.specs.declared.error.TreeError.TheVariants as errors
use Rattle.xml_tree.specs.declared.tree.Element.{Element}
use Rattle.xml_schema.specs.Faults.{Fault, faults, first_of}
use Rattle.xml_schema.specs.Placing.{placed_in}
use Rattle.xml_schema.specs.Valid.{Refusal, OfTree, unless_found, checked}
use Rattle.xml_schema.specs.ValidViews.{refusal_of, text_error}
use Rattle.xml_schema.specs.Tables.{Schema}
use Rattle.xml_schema.specs.declared.valid.ValidError.{ValidError}
use Rattle.xml_schema.proofs.Firsts.{none_first}

-- a tree that is given has no fault, and is the tree that was checked
given : (t : List ℕ) (e x : trees.Element) (o : Option Fault) → unless_found e (option_map (placed_in t) o) ≡ Ok x → (None ≡ o) × (x ≡ e)
given t e x None is = (refl, cc)
given t e x (Some f) is = absurd cc

pub checked_found : (s : Schema) (t : List ℕ) (e x : trees.Element) → checked s t e ≡ Ok x → (faults s x ≡ []) × (x ≡ e)
checked_found s t e x is =
    let p : (None ≡ first_of (faults s e)) × (x ≡ e) = given t e x (first_of (faults s e)) is in
    (ap (faults s) p.1 ∙ none_first (faults s e) p.0, p.1)

-- a tree without faults is given
pub checked_valid : (s : Schema) (t : List ℕ) (e : trees.Element) → faults s e ≡ [] → checked s t e ≡ Ok e
checked_valid s t e none = ap (λ (fs : List Fault). unless_found e (option_map (placed_in t) (first_of fs))) none

-- a tree with a first fault is refused for it, at its place
pub checked_refused : (s : Schema) (t : List ℕ) (e : trees.Element) (f : Fault) (o : Option Refusal) → Some f ≡ first_of (faults s e) → IfSome o (λ r. r ≡ OfTree (placed_in t f)) → EndsWith o (checked s t e)
checked_refused s t e f None some placed = tt
checked_refused s t e f (Some r) some placed = sym (ap (λ (o : Option Fault). unless_found e (option_map (placed_in t) o)) some) ∙ ap (λ (r : Refusal). Err r) (sym placed)

-- what was checked, of a text that spells it
pub found_by : (s : Schema) (root : trees.Element) (t : List ℕ) (r : Result Element ValidError) → Spells root t → Gives refusal_of element_view r (checked s t root)
    → IfOk r (λ e. Spells (element_view e) t × (faults s (element_view e) ≡ []))
found_by s root t (Ok e) spelled is =
    let p : (faults s (element_view e) ≡ []) × (element_view e ≡ root) = checked_found s t root (element_view e) is in
    (subst (λ (x : trees.Element). Spells x t) (sym p.1) spelled, p.0)
found_by s root t (Err d) spelled is = tt

no_end : (o : Option Refusal) (r : Result trees.Element Refusal) (e : trees.Element) → r ≡ Ok e → EndsWith o r → o ≡ None
no_end None r e is ends = refl
no_end (Some f) r e is ends = absurd cc

pub only_by : (s : Schema) (t : List ℕ) (root e : trees.Element) (r : Result Element ValidError) → root ≡ e → faults s e ≡ [] → Gives refusal_of element_view r (checked s t root)
    → GivesBack refusal_of element_view r e
only_by s t root e (Ok x) same none is =
    let all : checked s t root ≡ Ok e = ap (checked s t) same ∙ checked_valid s t e none in
    cc
only_by s t root e (Err d) same none is =
    let all : checked s t root ≡ Ok e = ap (checked s t) same ∙ checked_valid s t e none in
    no_end (refusal_of d) (checked s t root) e all is

pub text_none : (d : TreeError) → tree_refusal d ≡ None → refusal_of (text_error d) ≡ None
text_none errors.Memory e = refl
text_none (errors.Fault fault left) e = absurd cc
