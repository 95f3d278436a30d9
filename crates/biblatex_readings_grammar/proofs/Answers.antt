-- What is read, and what is refused, by a grammar.
use Rattle.std.proofs.Common.{◌≡◌, ℕ, List, [], ◌∷◌, Result, Ok, Err, refl, sym, ap, ◌∙◌}
use Rattle.std.specs.Prelude.{◌↔◌}
use Rattle.texts.specs.declared.reader.Unreadable.{Unreadable}
use Rattle.biblatex_dates.specs.declared.error.TypeErrorKind.{TypeErrorKind}
use Rattle.biblatex_dates.specs.declared.error.TypeErrorKind.TheVariants as faults
use Rattle.biblatex_values.specs.Pages.{whole}
use Rattle.biblatex_readings_grammar.specs.Answers.{IsAnswer}

abbrev read : {X : Type 0} → X → Result X TypeErrorKind
read x = Ok x

abbrev refused : (X : Type 0) → TypeErrorKind → Result X TypeErrorKind
refused X f = Err f

-- a value is no refusal
never : {X : Type 0} (x : X) (f : TypeErrorKind) → read x ≡ refused X f → ⊥
never x f e = cc

-- Where exactly what is related is read, and all else is unreadable, what is read is the answer of the grammar.
pub answers : {X : Type 0} (Is : X → Type 0) (r : Result X TypeErrorKind) → ((x : X) → Is x → r ≡ Ok x) → ((x : X) → r ≡ Ok x → Is x) → ((f : TypeErrorKind) → r ≡ Err f → f ≡ faults.Unreadable)
    → (answer : Result X TypeErrorKind) → (r ≡ answer) ↔ IsAnswer Is answer
answers {X} Is r again takes refuses (Ok x) = (takes x, again x)
answers {X} Is r again takes refuses (Err f) = (λ e. (refuses f e, λ x is. never x f (sym (again x is) ∙ e)), back r takes refuses)
  where
    back : (s : Result X TypeErrorKind) → ((x : X) → s ≡ Ok x → Is x) → ((g : TypeErrorKind) → s ≡ Err g → g ≡ faults.Unreadable) → (f ≡ faults.Unreadable) × ((x : X) → Is x → ⊥) → s ≡ Err f
    back (Ok x) takes refuses none = absurd (none.1 x (takes x refl))
    back (Err g) takes refuses none = ap (refused X) (refuses g refl ∙ sym none.0)

value_is : {X : Type 0} (x y : X) → read x ≡ read y → x ≡ y
value_is x y e = cc

fault_is : {X : Type 0} (f g : TypeErrorKind) → refused X f ≡ refused X g → g ≡ f
fault_is f g e = cc

-- what was read up to the end
pub whole-takes : {X : Type 0} (r : Result (X × List ℕ) Unreadable) (x : X) → whole r ≡ Ok x → r ≡ Ok (x, [])
whole-takes (Err f) x e = absurd cc
whole-takes (Ok (y, [])) x e = ap (λ z. Ok (z, [])) (value_is y x e)
whole-takes (Ok (y, c ∷ cs)) x e = absurd cc

pub whole-refuses : {X : Type 0} (r : Result (X × List ℕ) Unreadable) (f : TypeErrorKind) → whole r ≡ Err f → f ≡ faults.Unreadable
whole-refuses {X} (Err g) f e = fault_is {X = X} faults.Unreadable f e
whole-refuses (Ok (y, [])) f e = absurd cc
whole-refuses {X} (Ok (y, c ∷ cs)) f e = fault_is {X = X} faults.Unreadable f e
