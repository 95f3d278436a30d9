-- The names of macros, as a set that takes one after the other.
use Rattle.std.proofs.Common.{◌≡◌, ℕ, Bool, true, false, ◌||◌, List, [], ◌∷◌, map, refl, sym, ap, ◌∙◌}
use Rattle.std.specs.Borrow.{Bor}
use Rattle.std.specs.Str.{bytes_eq}
use Rattle.xml_tree.specs.Views.{element_view}
use Rattle.xml_tree.specs.declared.tree.Element.{Element}
use Rattle.csl_locales.specs.Called.{elements_of}
use Rattle.csl_locales.specs.Sets.{is_one_of}
use Rattle.csl_styles.specs.Faults.{macro_name}

or_turned : (a b c : Bool) → ((a || b) || c) ≡ (b || (a || c))
or_turned true true c = refl
or_turned true false c = refl
or_turned false true c = refl
or_turned false false c = refl

or_false : (a : Bool) → (a || false) ≡ a
or_false true = refl
or_false false = refl

-- no name is known, and then that of one macro more
pub known_first : (old all : List ℕ → Bool) (here : List (Bor Element)) → ((t : List ℕ) → old t ≡ false) → ((t : List ℕ) → is_one_of (map macro_name (elements_of here)) t ≡ all t)
    → (t : List ℕ) → (old t || is_one_of (map macro_name (elements_of here)) t) ≡ all t
known_first old all here none named t = ap (λ (b : Bool). b || is_one_of (map macro_name (elements_of here)) t) (none t) ∙ named t

pub known_on : (old new all : List ℕ → Bool) (name : List ℕ) (e : Bor Element) (rest here : List (Bor Element)) → here ≡ e ∷ rest
    → ((t : List ℕ) → (old t || is_one_of (map macro_name (elements_of here)) t) ≡ all t) → name ≡ macro_name (element_view e.now) → ((t : List ℕ) → new t ≡ (bytes_eq name t || old t))
    → (t : List ℕ) → (new t || is_one_of (map macro_name (elements_of rest)) t) ≡ all t
known_on old new all name e rest here steps so_far named added t =
    let more : Bool = is_one_of (map macro_name (elements_of rest)) t in
    ap (λ (b : Bool). b || more) (added t)
    ∙ (or_turned (bytes_eq name t) (old t) more
    ∙ (ap (λ (n : List ℕ). old t || (bytes_eq n t || more)) named ∙ (sym (ap (λ (es : List (Bor Element)). old t || is_one_of (map macro_name (elements_of es)) t) steps) ∙ so_far t)))

pub known_all : (old all : List ℕ → Bool) (here : List (Bor Element)) → here ≡ [] → ((t : List ℕ) → (old t || is_one_of (map macro_name (elements_of here)) t) ≡ all t) → (t : List ℕ) → old t ≡ all t
known_all old all here none so_far t = sym (or_false (old t)) ∙ (sym (ap (λ (es : List (Bor Element)). old t || is_one_of (map macro_name (elements_of es)) t) none) ∙ so_far t)
