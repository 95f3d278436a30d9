-- The first fault of a style by its macros, as code finds it: element by element.
use Rattle.std.proofs.Common.{◌≡◌, ℕ, ◌+◌, ◌<◌, ◌≤◌, Bool, true, false, cond, List, [], ◌∷◌, ◌++◌, length, drop, get_or, String, Global, Option, Some, None, option_to_list, refl, sym, ap, ◌∙◌}
use Rattle.std.proofs.lemmas.List.{at_drop_more, at_drop_all}
use Rattle.xml_tree.specs.Trees as trees
use Rattle.xml_tree.specs.Trees.{Tagged, content_of}
use Rattle.xml_tree.specs.Views.{element_view, children_of}
use Rattle.xml_tree.specs.declared.tree.Element.{Element}
use Rattle.xml_schema.specs.Faults.{name_of, first_of}
use Rattle.xml_schema.proofs.Firsts.{some_first, later_first}
use Rattle.csl_words.specs.Elements.{content_in}
use Rattle.csl_locales.specs.Words.{is_passed}
use Rattle.csl_styles.specs.Faults.{Fault, call_fault, call_faults, calls_in, with_name, child_faults, macro_faults}

-- what may come before a list
pub one_first : {A : Type 0} (v : A) (o : Option A) (ys : List A) → Some v ≡ o → Some v ≡ first_of (option_to_list o ++ ys)
one_first {A} v o ys e = ap (λ (p : Option A). first_of (option_to_list p ++ ys)) e

pub one_later : {A : Type 0} (r o : Option A) (ys : List A) → None ≡ o → r ≡ first_of ys → r ≡ first_of (option_to_list o ++ ys)
one_later {A} r o ys none e = e ∙ ap (λ (p : Option A). first_of (option_to_list p ++ ys)) none

-- an element that is passed over
pub passed_none : (known : List ℕ → Bool) (x : trees.Element) → is_passed (name_of x) ≡ true → None ≡ first_of (call_faults known x)
passed_none known (Tagged left n attributes content) passed =
    sym (ap (λ (b : Bool). first_of (cond b [] (option_to_list (call_fault known (Tagged left n attributes content)) ++ calls_in known content))) passed)

-- one that is not: its own call, and those in it
pub own_call : (known : List ℕ → Bool) (x : trees.Element) (f : Fault) → is_passed (name_of x) ≡ false → Some f ≡ call_fault known x → Some f ≡ first_of (call_faults known x)
own_call known (Tagged left n attributes content) f looked e =
    let x : trees.Element = Tagged left n attributes content in
    one_first f (call_fault known x) (calls_in known content) e ∙ sym (ap (λ (b : Bool). first_of (cond b [] (option_to_list (call_fault known x) ++ calls_in known content))) looked)

pub inner_call : (known : List ℕ → Bool) (x : trees.Element) (o : Option Fault) → is_passed (name_of x) ≡ false → None ≡ call_fault known x → o ≡ first_of (calls_in known (content_in x)) → o ≡ first_of (call_faults known x)
inner_call known (Tagged left n attributes content) o looked none e =
    let x : trees.Element = Tagged left n attributes content in
    one_later o (call_fault known x) (calls_in known content) none e ∙ sym (ap (λ (b : Bool). first_of (cond b [] (option_to_list (call_fault known x) ++ calls_in known content))) looked)

-- calls by elements from an index on
calls_at : (known : List ℕ → Bool) (ps : List (String Global × Element)) (i : ℕ) (p : String Global × Element) (t : List ℕ) → i < length ps → p ≡ get_or ps i p
    → first_of (calls_in known (content_of (children_of (drop i ps)) t)) ≡ first_of (call_faults known (element_view p.1) ++ calls_in known (content_of (children_of (drop (i + 1) ps)) t))
calls_at known ps i p t less is =
    at_drop_more (λ (qs : List (String Global × Element)). first_of (calls_in known (content_of (children_of qs) t))) ps i p less
    ∙ sym (ap (λ (q : String Global × Element). first_of (call_faults known (element_view q.1) ++ calls_in known (content_of (children_of (drop (i + 1) ps)) t))) is)

pub calls_on : (known : List ℕ → Bool) (ps : List (String Global × Element)) (i : ℕ) (p : String Global × Element) (t : List ℕ) (all : Option Fault) → i < length ps → p ≡ get_or ps i p
    → first_of (calls_in known (content_of (children_of (drop i ps)) t)) ≡ all → None ≡ first_of (call_faults known (element_view p.1))
    → first_of (calls_in known (content_of (children_of (drop (i + 1) ps)) t)) ≡ all
calls_on known ps i p t all less is so_far none =
    let rest : List Fault = calls_in known (content_of (children_of (drop (i + 1) ps)) t) in
    later_first (first_of rest) (call_faults known (element_view p.1)) rest none refl ∙ (sym (calls_at known ps i p t less is) ∙ so_far)

pub calls_here : (known : List ℕ → Bool) (ps : List (String Global × Element)) (i : ℕ) (p : String Global × Element) (t : List ℕ) (all : Option Fault) (f : Fault) → i < length ps → p ≡ get_or ps i p
    → first_of (calls_in known (content_of (children_of (drop i ps)) t)) ≡ all → Some f ≡ first_of (call_faults known (element_view p.1)) → Some f ≡ all
calls_here known ps i p t all f less is so_far some =
    some_first f (call_faults known (element_view p.1)) (calls_in known (content_of (children_of (drop (i + 1) ps)) t)) some ∙ (sym (calls_at known ps i p t less is) ∙ so_far)

pub calls_none : (known : List ℕ → Bool) (ps : List (String Global × Element)) (i : ℕ) (t : List ℕ) (all : Option Fault) → length ps ≤ i → first_of (calls_in known (content_of (children_of (drop i ps)) t)) ≡ all
    → None ≡ all
calls_none known ps i t all past so_far = sym (at_drop_all (λ (qs : List (String Global × Element)). first_of (calls_in known (content_of (children_of qs) t))) ps i past) ∙ so_far

-- the same of macros, whose names are known one after the other
macros_at : (known old : List ℕ → Bool) (ps : List (String Global × Element)) (i : ℕ) (p : String Global × Element) (t : List ℕ) → i < length ps → p ≡ get_or ps i p
    → first_of (macro_faults known old (content_of (children_of (drop i ps)) t))
    ≡ first_of (child_faults known old (element_view p.1) ++ macro_faults known (with_name old (element_view p.1)) (content_of (children_of (drop (i + 1) ps)) t))
macros_at known old ps i p t less is =
    at_drop_more (λ (qs : List (String Global × Element)). first_of (macro_faults known old (content_of (children_of qs) t))) ps i p less
    ∙ sym (ap (λ (q : String Global × Element). first_of (child_faults known old (element_view q.1) ++ macro_faults known (with_name old (element_view q.1)) (content_of (children_of (drop (i + 1) ps)) t))) is)

pub macros_on : (known old new : List ℕ → Bool) (ps : List (String Global × Element)) (i : ℕ) (p : String Global × Element) (t : List ℕ) (all : Option Fault) → i < length ps → p ≡ get_or ps i p
    → first_of (macro_faults known old (content_of (children_of (drop i ps)) t)) ≡ all → None ≡ first_of (child_faults known old (element_view p.1))
    → ((u : List ℕ) → new u ≡ with_name old (element_view p.1) u) → first_of (macro_faults known new (content_of (children_of (drop (i + 1) ps)) t)) ≡ all
macros_on known old new ps i p t all less is so_far none names =
    let rest : List Fault = macro_faults known (with_name old (element_view p.1)) (content_of (children_of (drop (i + 1) ps)) t) in
    let same : first_of (macro_faults known new (content_of (children_of (drop (i + 1) ps)) t)) ≡ first_of rest =
    λ j. first_of (macro_faults known (λ u. names u j) (content_of (children_of (drop (i + 1) ps)) t)) in
    same ∙ (later_first (first_of rest) (child_faults known old (element_view p.1)) rest none refl ∙ (sym (macros_at known old ps i p t less is) ∙ so_far))

pub macros_here : (known old : List ℕ → Bool) (ps : List (String Global × Element)) (i : ℕ) (p : String Global × Element) (t : List ℕ) (all : Option Fault) (f : Fault) → i < length ps → p ≡ get_or ps i p
    → first_of (macro_faults known old (content_of (children_of (drop i ps)) t)) ≡ all → Some f ≡ first_of (child_faults known old (element_view p.1)) → Some f ≡ all
macros_here known old ps i p t all f less is so_far some =
    some_first f (child_faults known old (element_view p.1)) (macro_faults known (with_name old (element_view p.1)) (content_of (children_of (drop (i + 1) ps)) t)) some
    ∙ (sym (macros_at known old ps i p t less is) ∙ so_far)

pub macros_none : (known old : List ℕ → Bool) (ps : List (String Global × Element)) (i : ℕ) (t : List ℕ) (all : Option Fault) → length ps ≤ i
    → first_of (macro_faults known old (content_of (children_of (drop i ps)) t)) ≡ all → None ≡ all
macros_none known old ps i t all past so_far = sym (at_drop_all (λ (qs : List (String Global × Element)). first_of (macro_faults known old (content_of (children_of qs) t))) ps i past) ∙ so_far
