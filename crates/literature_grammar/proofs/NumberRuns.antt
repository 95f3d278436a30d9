-- Runs of characters, and what one character is.
use Rattle.std.proofs.Common.{◌≡◌, ℕ, Bool, true, false, eqb, List, [], ◌∷◌, ◌++◌, Result, Ok, refl, sym, ap, ◌∙◌, subst, arith}
use Rattle.std.proofs.lemmas.Bool.{eqb-true}
use Rattle.std.proofs.lemmas.Bool.Decides.{nat_tests}
use Rattle.std.specs.Char.{is_ascii_digit, is_ascii_alphabetic}
use Rattle.laws.specs.Characters as character
use Rattle.laws.specs.Runs.{prefix_of, after, AllPassTest, Bars}
use Rattle.laws.proofs.Results.{ok_is}
use Rattle.laws.proofs.Runs.{Cuts, cuts, prefix-after, all-prefix}
use Rattle.texts.specs.Character.{passes}
use Rattle.texts.specs.Reading.{end_at}
use Rattle.texts.specs.declared.character.Class.TheVariants.{Letter, Digit, Space, Dash}
use Rattle.texts.specs.declared.reader.Unreadable.{Unreadable}
use Rattle.literature_grammar.specs.Numbers.{IsOf, is_space, is_dash, AreSpaces}

-- of what is given the relation holds
pub given : {X : Type 0} (P : X → Type 0) (x p : X) → ◌≡◌ {A = Result X Unreadable} (Ok x) (Ok p) → P x → P p
given P x p e h = subst P (ok_is {F = Unreadable} x p e) h

-- tests that pass the same characters
abbrev pub AreAlike : (ℕ → Bool) → (ℕ → Bool) → Type 0
AreAlike f g = (c : ℕ) → f c ≡ g c

-- the classes of the reader, by the tests of the grammar
pub digits_alike : AreAlike (passes Digit) is_ascii_digit
unfolding passes
digits_alike c = refl

pub letters_alike : AreAlike (passes Letter) is_ascii_alphabetic
unfolding passes
letters_alike c = refl

pub spaces_alike : AreAlike (passes Space) is_space
unfolding passes
spaces_alike c = refl

pub dashes_alike : AreAlike (passes Dash) is_dash
unfolding passes
dashes_alike c = refl

to_reader : (f g : ℕ → Bool) → AreAlike f g → (t : List ℕ) → AllPassTest g t → AllPassTest f t
to_reader f g alike [] all = tt
to_reader f g alike (c ∷ t) all = (alike c ∙ all.0, to_reader f g alike t all.1)

pub to_grammar : (f g : ℕ → Bool) → AreAlike f g → (t : List ℕ) → AllPassTest f t → AllPassTest g t
to_grammar f g alike [] all = tt
to_grammar f g alike (c ∷ t) all = (sym (alike c) ∙ all.0, to_grammar f g alike t all.1)

-- characters that pass, before one that does not, are the longest run
pub cut : (f g : ℕ → Bool) → AreAlike f g → (cs t rest : List ℕ) → IsOf g cs t rest → Bars f rest → Cuts f cs t rest
cut f g alike cs t rest (e, all) bars = subst (λ (x : List ℕ). Cuts f x t rest) (sym e) (cuts f t rest (to_reader f g alike t all) bars)

-- the longest run is one of such characters
pub run : (f g : ℕ → Bool) → AreAlike f g → (cs : List ℕ) → IsOf g cs (prefix_of f cs) (after f cs)
run f g alike cs = (prefix-after f cs, to_grammar f g alike (prefix_of f cs) (all-prefix f cs))

-- characters that pass, up to the end of a text
pub all_letters : (cs t : List ℕ) → IsOf is_ascii_alphabetic cs t [] → AllPassTest (passes Letter) cs
all_letters cs [] (e, all) = subst (AllPassTest (passes Letter)) (sym e) tt
all_letters cs (c ∷ t) (e, all) = subst (AllPassTest (passes Letter)) (sym e) (letters_alike c ∙ all.0, all_letters (t ++ []) t (refl, all.1))

-- spaces before what a test bars are barred, where a space is
pub spaces-bar : (test : ℕ → Bool) (cs rest : List ℕ) → AreSpaces cs rest → test 32 ≡ false → Bars test rest → Bars test cs
spaces-bar test cs rest ([], (e, all)) other bars = subst (λ (x : List ℕ). Bars test x) (sym e) bars
spaces-bar test cs rest (c ∷ t, (e, all)) other bars = subst (λ (x : List ℕ). Bars test x) (sym e) (ap test (eqb-true c 32 all.0) ∙ other)

pub spaces-again : (cs rest : List ℕ) → AreSpaces cs rest → Bars (passes Space) rest → after (passes Space) cs ≡ rest
spaces-again cs rest (t, is) bars = (cut (passes Space) is_space spaces_alike cs t rest is bars).after

pub spaces-take : (cs : List ℕ) → AreSpaces cs (after (passes Space) cs)
spaces-take cs = (prefix_of (passes Space) cs, run (passes Space) is_space spaces_alike cs)

-- a dash is neither a space nor a digit, and no comma and no ampersand
pub dash_only : (c : ℕ) → is_dash c ≡ true → (passes Space c ≡ false) × (passes Digit c ≡ false) × (eqb c character.comma ≡ false) × (eqb c character.ampersand ≡ false)
unfolding passes
dash_only c d = (grind (arith, nat_tests), grind (arith, nat_tests), grind (arith, nat_tests), grind (arith, nat_tests))

pub end-takes : (cs rest : List ℕ) → end_at cs ≡ Ok rest → cs ≡ []
end-takes [] rest e = refl
end-takes (c ∷ cs) rest e = absurd cc
