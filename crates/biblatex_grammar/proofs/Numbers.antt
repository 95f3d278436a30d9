-- Numbers of the grammar are those that the reader tests.
use Rattle.std.proofs.Common.{◌≡◌, ℕ, Bool, true, false, true≢false, cond, ◌&&◌, ◌||◌, eqb, ◌⊎◌, List, [], ◌∷◌, ◌++◌, Some, refl, sym, ap, ◌∙◌, inl, inr}
use Rattle.std.proofs.lemmas.Bool.{eqb-true}
use Rattle.std.specs.Char.{is_ascii_digit}
use Rattle.std.specs.List.{list_any}
use Rattle.std.specs.Option.{option_map_or}
use Rattle.laws.specs.Text.{is_filled}
use Rattle.biblatex_text.specs.Raw.{Piece, normal, abbreviation}
use Rattle.biblatex_text.specs.Run.{only_if, next, after}
use Rattle.biblatex_text.specs.Value.{is_end, is_number, bare}
use Rattle.biblatex_grammar.specs.Values.{IsDigits, IsNumber, IsBare}
use Rattle.biblatex_grammar.proofs.Classes.{differs}
use Rattle.biblatex_grammar.proofs.States.{Run, number, fraction}

goes : (run then : Run) (c : ℕ) (cs : List ℕ) → next run c ≡ Some then → after run (c ∷ cs) ≡ after then cs
goes run then c cs e = rw e refl

digit-number : (c : ℕ) → is_ascii_digit c ≡ true → next number c ≡ Some number
digit-number c is =
    let other : eqb c 46 ≡ false = differs is_ascii_digit c 46 is refl in
    rw other (ap (λ b. only_if b number) is)

digit-fraction : (c : ℕ) → is_ascii_digit c ≡ true → next fraction c ≡ Some fraction
digit-fraction c is = ap (λ b. only_if b fraction) is

digits-number : (t : List ℕ) → IsDigits t → (rest : List ℕ) → after number (t ++ rest) ≡ after number rest
digits-number [] all rest = refl
digits-number (c ∷ t) all rest = goes number number c (t ++ rest) (digit-number c all.0) ∙ digits-number t all.1 rest

digits-fraction : (t : List ℕ) → IsDigits t → after fraction t ≡ []
digits-fraction [] all = refl
digits-fraction (c ∷ t) all = goes fraction fraction c t (digit-fraction c all.0) ∙ digits-fraction t all.1

digits-end : (t : List ℕ) → IsDigits t → after number t ≡ []
digits-end [] all = refl
digits-end (c ∷ t) all = goes number number c t (digit-number c all.0) ∙ digits-end t all.1

-- where digits stand, some digit does
some_digit : (t rest : List ℕ) → IsDigits t → is_filled t ≡ true → list_any is_ascii_digit (t ++ rest) ≡ true
some_digit [] rest all filled = absurd (true≢false (sym filled))
some_digit (c ∷ t) rest all filled = ap (λ b. b || list_any is_ascii_digit (t ++ rest)) all.0

any_digit : (t : List ℕ) → IsDigits t → is_filled t ≡ true → list_any is_ascii_digit t ≡ true
any_digit [] all filled = absurd (true≢false (sym filled))
any_digit (c ∷ t) all filled = ap (λ b. b || list_any is_ascii_digit t) all.0

around_point : (a b : List ℕ) → IsDigits a → IsDigits b → is_filled (a ++ b) ≡ true → list_any is_ascii_digit (a ++ 46 ∷ b) ≡ true
around_point [] b all_a all_b filled = any_digit b all_b filled
around_point (c ∷ a) b all_a all_b filled = some_digit (c ∷ a) (46 ∷ b) all_a refl

both_true : (a b : Bool) → a ≡ true → b ≡ true → a && b ≡ true
both_true a b e f = rw (e, f) refl

of_both : (a b : Bool) → a && b ≡ true → (a ≡ true) × (b ≡ true)
of_both true b e = (refl, e)
of_both false b e = absurd (true≢false (sym e))

pub number-again : (t : List ℕ) → IsNumber t → is_number t ≡ true
number-again t (inl (all, filled)) = both_true (is_end (after number t)) (list_any is_ascii_digit t) (ap is_end (digits-end t all)) (any_digit t all filled)
number-again t (inr (a, b, e, all_a, all_b, filled)) =
    ap is_number e
    ∙ both_true (is_end (after number (a ++ 46 ∷ b))) (list_any is_ascii_digit (a ++ 46 ∷ b))
    (ap is_end (digits-number a all_a (46 ∷ b) ∙ digits-fraction b all_b)) (around_point a b all_a all_b filled)

-- what the run takes to the end of the text has digits, and perhaps a point among them
fraction-digits : (t : List ℕ) → is_end (after fraction t) ≡ true → IsDigits t
fraction-digits [] is = tt
fraction-digits (c ∷ t) is = by_digit (is_ascii_digit c) refl is (λ e. fraction-digits t e)
  where
    by_digit : (b : Bool) → is_ascii_digit c ≡ b → is_end (option_map_or (λ more. after more t) (only_if b fraction) (c ∷ t)) ≡ true → (is_end (after fraction t) ≡ true → IsDigits t) → IsDigits (c ∷ t)
    by_digit true e h more = (e, more h)
    by_digit false e h more = absurd (true≢false (sym h))

abbrev Shape : List ℕ → Type 0
Shape t = IsDigits t ⊎ ((a : List ℕ) × (b : List ℕ) × (t ≡ a ++ 46 ∷ b) × IsDigits a × IsDigits b)

before_shape : (c : ℕ) (t : List ℕ) → is_ascii_digit c ≡ true → Shape t → Shape (c ∷ t)
before_shape c t is (inl all) = inl (is, all)
before_shape c t is (inr (a, b, e, all_a, all_b)) = inr (c ∷ a, b, ap (λ (x : List ℕ). c ∷ x) e, (is, all_a), all_b)

number-shape : (t : List ℕ) → is_end (after number t) ≡ true → Shape t
number-shape [] is = inl tt
number-shape (c ∷ t) is = by_point (eqb c 46) (is_ascii_digit c) refl refl is (λ e. number-shape t e)
  where
    by_point : (p b : Bool) → eqb c 46 ≡ p → is_ascii_digit c ≡ b → is_end (option_map_or (λ more. after more t) (cond p (Some fraction) (only_if b number)) (c ∷ t)) ≡ true → (is_end (after number t) ≡ true → Shape t)
        → Shape (c ∷ t)
    by_point true b e f h more = inr ([], t, ap (λ x. x ∷ t) (eqb-true c 46 e), tt, fraction-digits t h)
    by_point false true e f h more = before_shape c t f (more h)
    by_point false false e f h more = absurd (true≢false (sym h))

filled_any : (t : List ℕ) → list_any is_ascii_digit t ≡ true → is_filled t ≡ true
filled_any [] some = absurd (true≢false (sym some))
filled_any (c ∷ t) some = refl

filled_around : (a b : List ℕ) → list_any is_ascii_digit (a ++ 46 ∷ b) ≡ true → is_filled (a ++ b) ≡ true
filled_around [] b some = filled_any b some
filled_around (c ∷ a) b some = refl

shape-number : (t : List ℕ) → Shape t → list_any is_ascii_digit t ≡ true → IsNumber t
shape-number t (inl all) some = inl (all, filled_any t some)
shape-number t (inr (a, b, e, all_a, all_b)) some = inr (a, b, e, all_a, all_b, filled_around a b (sym (ap (list_any is_ascii_digit) e) ∙ some))

pub number-takes : (t : List ℕ) → is_number t ≡ true → IsNumber t
number-takes t is =
    let two = of_both (is_end (after number t)) (list_any is_ascii_digit t) is in
    shape-number t (number-shape t two.0) two.1

pub bare-again : (t : List ℕ) (p : Piece) → IsBare t p → bare t ≡ p
bare-again t (normal s) (is, e) =
    let yes_number = number-again t is in
    rw yes_number (ap (λ (x : List ℕ). normal x) (sym e))
bare-again t (abbreviation s) (no_number, e) = by_test (is_number t) refl
  where
    by_test : (b : Bool) → is_number t ≡ b → cond b (normal t) (abbreviation t) ≡ abbreviation s
    by_test true h = absurd (no_number (number-takes t h))
    by_test false h = ap (λ (x : List ℕ). abbreviation x) (sym e)

pub bare-takes : (t : List ℕ) → IsBare t (bare t)
bare-takes t = by_test (is_number t) refl
  where
    by_test : (b : Bool) → is_number t ≡ b → IsBare t (cond b (normal t) (abbreviation t))
    by_test true h = (number-takes t h, refl)
    by_test false h = (λ is. true≢false (sym (number-again t is) ∙ h), refl)
