-- Texts that spell trees that say the same mean the same, and are refused together.
use Rattle.std.proofs.Common.{◌≡◌, ◌↔◌, ℕ, List, [], ◌∷◌, Some, Ok, refl, sym, ap, ◌∙◌, subst}
use Rattle.xml_tree.specs.Trees.{Element}
use Rattle.xml_tree.specs.Grammar.{Spells}
use Rattle.xml_tree.specs.Building.{tree_of}
use Rattle.xml_tree.proofs.SpelledAgain.{tree_is}
use Rattle.xml_schema.specs.Faults.{first_of}
use Rattle.csl_styles.specs.Faults.{Fault, faults, placed_in}
use Rattle.csl_styles.specs.Files.{Csl, meaning}
use Rattle.csl_styles.specs.Reading.{Refusal, OfText, OfTree, OfStyle, blamed, IsAnswered, Means, IsRefused}
use Rattle.csl_laws.specs.Trees.{Alike}
use Rattle.csl_laws.specs.Laws.{SayTheSame}
use Rattle.csl_laws.proofs.FaultlessTogether.{alike_back, files_sound}
use Rattle.csl_laws.proofs.StylesAlike.{meanings_same}

-- a text spells one tree
one_tree : (t : List ℕ) (x y : Element) → Spells x t → Spells y t → x ≡ y
one_tree t x y s u =
    let a : tree_of t ≡ Ok x = tree_is t x s in
    let b : tree_of t ≡ Ok y = tree_is t y u in
    cc

-- what one of them means, the other means
means_too : (t u : List ℕ) (x y : Element) (c : Csl) → Spells x t → Spells y u → Alike x y → Means t c → Means u c
means_too t u x y c spelled other a (z, (again, none, is, answered)) =
    let same : z ≡ x = one_tree t z x again spelled in
    (y, (other, files_sound x y a (ap faults (sym same) ∙ none), sym (meanings_same x y a) ∙ (ap meaning (sym same) ∙ is), answered))

pub mean_together : (t u : List ℕ) → SayTheSame t u → (c : Csl) → Means t c ↔ Means u c
mean_together t u (x, y, spelled, other, a) c = (means_too t u x y c spelled other a, means_too u t y x c other spelled (alike_back x y a))

-- a list with a first member is not empty, and one that is not empty has a first member
has_first : {A : Type 0} (v : A) (xs : List A) → first_of xs ≡ Some v → xs ≡ [] → ⊥
has_first v [] e none = cc
has_first v (x ∷ xs) e none = cc

some_first : {A : Type 0} (xs : List A) → (xs ≡ [] → ⊥) → (v : A) × (first_of xs ≡ Some v)
some_first [] some = absurd (some refl)
some_first (x ∷ xs) some = (x, refl)

-- where one is refused, so is the other
refused_too : (t u : List ℕ) (x y : Element) → Spells x t → Spells y u → Alike x y → (r : Refusal) → IsRefused t r → (q : Refusal) × IsRefused u q
refused_too t u x y spelled other a (OfText r) e =
    let is : tree_of t ≡ Ok x = tree_is t x spelled in
    absurd cc
refused_too t u x y spelled other a (OfTree f) (z, again, (first, is, placed)) =
    let same : z ≡ x = one_tree t z x again spelled in
    let here : first_of (faults x) ≡ Some first = ap (λ (w : Element). first_of (faults w)) (sym same) ∙ is in
    let there : (g : Fault) × (first_of (faults y) ≡ Some g) = some_first (faults y) (λ none. has_first first (faults x) here (files_sound y x (alike_back x y a) none)) in
    (OfTree (placed_in u there.0), (y, other, (there.0, there.1, refl)))
refused_too t u x y spelled other a (OfStyle r left) (z, again, none, answered, place) =
    let same : z ≡ x = one_tree t z x again spelled in (
      OfStyle r (blamed r y),
      (
        y,
        other,
        files_sound x y a (ap faults (sym same) ∙ none),
        subst (λ (c : Csl). IsAnswered c (Some r)) (ap meaning same ∙ meanings_same x y a) answered,
        refl,
      ),
    )

pub refused_together : (t u : List ℕ) → SayTheSame t u → (r : Refusal) → IsRefused t r → (q : Refusal) × IsRefused u q
refused_together t u (x, y, spelled, other, a) r is = refused_too t u x y spelled other a r is
