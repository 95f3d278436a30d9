-- The prolog that a text has and what is read of it are one.
use Rattle.std.proofs.Common.{◌≡◌, ℕ, Bool, true, false, cond, eqb, List, [], ◌∷◌, ◌++◌, Option, Some, None, Result, Ok, Err, codes, refl, sym, ap, ◌∙◌, subst, ◌⊎◌, inl, inr}
use Rattle.std.specs.Prelude.{IfOk}
use Rattle.std.proofs.lemmas.Bool.{eqb-true}
use Rattle.laws.specs.Results.{◌>>=◌}
use Rattle.laws.specs.Steps.{each}
use Rattle.laws.proofs.Results.{bind_ok, ok_is}
use Rattle.xml_text.specs.Tokens.{At, Attribute}
use Rattle.xml_text.specs.Reading.{Refusal, begun_at, word_at, begins}
use Rattle.xml_text.specs.Tags.{next_attribute_at}
use Rattle.xml_text.specs.Grammar.{AreAttributes}
use Rattle.xml_text.specs.Prolog.{declaration_fault, declared_at, declaration_at, declaration_if, after_mark, prolog_at, IsMark, IsDeclaration, BeginsNoDeclaration, IsProlog}
use Rattle.xml_text.specs.Views.{GivesRest, LeavesOnly}
use Rattle.xml_text.specs.declared.character.Class.TheVariants.{Space}
use Rattle.xml_text.specs.declared.fault.Fault.{Fault}
use Rattle.xml_text.specs.declared.fault.XmlError.{XmlError}
use Rattle.xml_text.specs.declared.fault.XmlError.TheVariants as errors
use Rattle.xml_text.proofs.GrammarAgain.{attributes-again}
use Rattle.xml_text.proofs.GrammarTakes.{word-takes, attributes-takes, begun_ok}

-- what follows the byte order mark
abbrev from_mark : List ℕ → Result (List ℕ) Refusal
from_mark a = declaration_if a (word_at (codes "<?xml") a)

abbrev IsFromMark : List ℕ → List ℕ → Type 0
IsFromMark a rest = IsDeclaration a rest ⊎ ((a ≡ rest) × BeginsNoDeclaration a)

-- ---- what is read the text has

mark-takes : (cs : List ℕ) → IsMark cs (after_mark cs)
mark-takes [] = inr (refl, tt)
mark-takes (c ∷ cs) = by_test (eqb c 0xFEFF) refl
  where
    by_test : (b : Bool) → eqb c 0xFEFF ≡ b → IsMark (c ∷ cs) (cond b cs (c ∷ cs))
    by_test true e = inl (ap (λ (x : ℕ). x ∷ cs) (eqb-true c 0xFEFF e))
    by_test false e = inr (refl, e)

declared-takes : (start rest more : List ℕ) (fault : Option Fault) → declared_at start rest fault ≡ Ok more → (fault ≡ None) × (rest ≡ more)
declared-takes start rest more None e = (refl, ok_is {F = Refusal} rest more e)
declared-takes start rest more (Some fault) e = absurd cc

declaration-takes : (start cs rest : List ℕ) → declaration_at start cs ≡ Ok rest → (attributes : List (At Attribute)) × AreAttributes cs attributes (codes "?>" ++ rest) × (declaration_fault attributes ≡ None)
unfolding declaration_at
declaration-takes start cs rest e =
    let attributes = bind_ok (each next_attribute_at cs) (λ a. word_at (codes "?>") a.1 >>= λ more. declared_at start more (declaration_fault a.0)) rest e in
    let end = bind_ok (word_at (codes "?>") attributes.0.1) (λ more. declared_at start more (declaration_fault attributes.0.0)) rest attributes.2 in
    let none = declared-takes start end.0 rest (declaration_fault attributes.0.0) end.2 in
    let behind : attributes.0.1 ≡ codes "?>" ++ rest = word-takes (codes "?>") attributes.0.1 end.0 end.1 ∙ ap (λ (x : List ℕ). codes "?>" ++ x) none.1 in
    (attributes.0.0, subst (AreAttributes cs attributes.0.0) behind (attributes-takes cs attributes.0 attributes.1), none.0)

word_stands : (a b : List ℕ) → a ≡ codes "<?xml" ++ b → word_at (codes "<?xml") a ≡ Ok b
word_stands a b e = ap (word_at (codes "<?xml")) e

from_mark-takes : (a rest : List ℕ) → from_mark a ≡ Ok rest → IsFromMark a rest
from_mark-takes a rest e = by_word (word_at (codes "<?xml") a) refl e
  where
    by_space : (b : List ℕ) → word_at (codes "<?xml") a ≡ Ok b → (s : Bool) → begins Space b ≡ s → cond {A = Result (List ℕ) Refusal} s (begun_at a (declaration_at a b)) (Ok a) ≡ Ok rest → IsFromMark a rest
    by_space b is true f d =
        let t = declaration-takes a b rest (begun_ok a (declaration_at a b) rest d) in
        inl (b, t.0, word-takes (codes "<?xml") a b is, f, t.1, t.2)
    by_space b is false f d =
        inr (ok_is {F = Refusal} a rest d, λ x e. subst (λ y. begins Space y ≡ false) (ok_is {F = Refusal} b x (sym is ∙ word_stands a x e)) f)

    never : (f : Refusal) (x : List ℕ) → ◌≡◌ {A = Result (List ℕ) Refusal} (Err f) (Ok x) → begins Space x ≡ false
    never f x e = absurd cc

    by_word : (r : Result (List ℕ) Refusal) → word_at (codes "<?xml") a ≡ r → declaration_if a r ≡ Ok rest → IsFromMark a rest
    by_word (Ok b) is d = by_space b is (begins Space b) refl d
    by_word (Err f) is d = inr (ok_is {F = Refusal} a rest d, λ x e. never f x (sym is ∙ word_stands a x e))

pub prolog-takes : (cs rest : List ℕ) → prolog_at cs ≡ Ok rest → IsProlog cs rest
prolog-takes cs rest e = (after_mark cs, mark-takes cs, from_mark-takes (after_mark cs) rest e)

-- ---- what the text has is read

mark-again : (cs rest : List ℕ) → IsMark cs rest → after_mark cs ≡ rest
mark-again cs rest (inl e) = ap after_mark e
mark-again [] rest (inr (e, bars)) = e
mark-again (c ∷ cs) rest (inr (e, bars)) = rw bars e

declaration-again : (start cs rest : List ℕ) (attributes : List (At Attribute)) → AreAttributes cs attributes (codes "?>" ++ rest) → declaration_fault attributes ≡ None → declaration_at start cs ≡ Ok rest
unfolding declaration_at
declaration-again start cs rest attributes are none =
    rw (attributes-again cs (codes "?>" ++ rest) attributes are) (ap (declared_at start rest) none)

from_mark-again : (a rest : List ℕ) → IsFromMark a rest → from_mark a ≡ Ok rest
from_mark-again a rest (inl (b, attributes, e, spaced, are, none)) =
    let read = declaration-again a b rest attributes are none in
    ap (declaration_if a) (word_stands a b e) ∙ rw (spaced, read) refl
from_mark-again a rest (inr (e, plainly)) = by_word (word_at (codes "<?xml") a) refl
  where
    by_word : (r : Result (List ℕ) Refusal) → word_at (codes "<?xml") a ≡ r → declaration_if a r ≡ Ok rest
    by_word (Ok b) is =
        let plain = plainly b (word-takes (codes "<?xml") a b is) in
        rw plain (ap (λ (x : List ℕ). Ok x) e)
    by_word (Err f) is = ap (λ (x : List ℕ). Ok x) e

pub prolog-again : (cs rest : List ℕ) → IsProlog cs rest → prolog_at cs ≡ Ok rest
prolog-again cs rest (a, mark, is) = ap from_mark (mark-again cs a mark) ∙ from_mark-again a rest is

-- ---- what the call returned

pub prolog_is : {X : Type 0} (r : Result X XmlError) (cs rest : List ℕ) → GivesRest r rest (prolog_at cs) → IfOk r (λ _. IsProlog cs rest)
prolog_is (Ok x) cs rest e = prolog-takes cs rest e
prolog_is (Err error) cs rest e = tt

pub only_this_prolog : {X : Type 0} (r : Result X XmlError) (cs rest more : List ℕ) → GivesRest r rest (prolog_at cs) → IsProlog cs more → LeavesOnly r rest more
only_this_prolog (Ok x) cs rest more e is = ok_is {F = Refusal} rest more (sym e ∙ prolog-again cs more is)
only_this_prolog (Err errors.Memory) cs rest more e is = refl
only_this_prolog (Err (errors.Fault fault)) cs rest more e is =
    let never = sym e ∙ prolog-again cs more is in
    absurd cc
