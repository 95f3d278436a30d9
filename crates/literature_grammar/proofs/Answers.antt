-- What is read, and what is refused, by a grammar.
use Rattle.std.proofs.Common.{◌≡◌, Result, Ok, Err, refl, sym, ap, ◌∙◌}
use Rattle.std.specs.Prelude.{◌↔◌}
use Rattle.texts.specs.declared.reader.Unreadable.{Unreadable}
use Rattle.texts.specs.declared.reader.Unreadable.TheVariants.{NotThere}
use Rattle.literature_grammar.specs.Answers.{IsAnswer}

abbrev read : {X : Type 0} → X → Result X Unreadable
read x = Ok x

abbrev refused : (X : Type 0) → Unreadable → Result X Unreadable
refused X f = Err f

-- a value is no refusal
never : {X : Type 0} (x : X) (f : Unreadable) → read x ≡ refused X f → ⊥
never x f e = cc

-- there is one refusal
one_refusal : (f g : Unreadable) → f ≡ g
one_refusal NotThere NotThere = refl

-- Where exactly what is related is read, what is read is the answer of the grammar.
pub answers : {X : Type 0} (Is : X → Type 0) (r : Result X Unreadable) → ((x : X) → Is x → r ≡ Ok x) → ((x : X) → r ≡ Ok x → Is x) → (answer : Result X Unreadable)
    → (r ≡ answer) ↔ IsAnswer Is answer
answers {X} Is r again takes (Ok x) = (takes x, again x)
answers {X} Is r again takes (Err f) = (λ e x is. never x f (sym (again x is) ∙ e), back r takes)
  where
    back : (s : Result X Unreadable) → ((x : X) → s ≡ Ok x → Is x) → ((x : X) → Is x → ⊥) → s ≡ Err f
    back (Ok x) takes none = absurd (none x (takes x refl))
    back (Err g) takes none = ap (refused X) (one_refusal g f)
