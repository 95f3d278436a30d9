-- Texts whose characters stand for themselves.
use Rattle.std.proofs.Common.{◌≡◌, ℕ, Bool, true, false, cond, List, [], ◌∷◌, ◌++◌, map, refl, sym, ◌∙◌, subst}
use Rattle.std.specs.Prelude.{not, ◌==◌, ◌&&◌, ◌||◌}
use Rattle.std.proofs.lemmas.Bool.{eqb-true}
use Rattle.laws.specs.Runs.{after}
use Rattle.laws.specs.Text.{is_filled}
use Rattle.xml_tree.specs.Plain.{is_plain, are_plain}
use Rattle.xml_tree.specs.Values.{lines_from, lines_of, shown, spaced}

or_first : (a b : Bool) → (a || b) ≡ false → a ≡ false
or_first false b e = refl
or_first true b e = absurd cc

or_second : (a b : Bool) → (a || b) ≡ false → b ≡ false
or_second false b e = e
or_second true b e = absurd cc

not_true : (a : Bool) → not a ≡ true → a ≡ false
not_true false e = refl
not_true true e = absurd cc

-- such a character is no carriage return
no_return : (in_value : Bool) (c : ℕ) → is_plain in_value c ≡ true → (c == 13) ≡ false
no_return in_value c e = or_first (c == 13) (in_value && (c == 9 || c == 10)) (not_true (c == 13 || in_value && (c == 9 || c == 10)) e)

-- it is shown as it is
shown_plain : (in_value : Bool) (c : ℕ) → is_plain in_value c ≡ true → shown in_value c ≡ c
shown_plain false c e = refl
shown_plain true c e = by_space (c == 32) refl
  where
    thirteen : (c == 13) ≡ false
    thirteen = no_return true c e

    others : (c == 9 || c == 10) ≡ false
    others = or_second (c == 13) (c == 9 || c == 10) (not_true (c == 13 || true && (c == 9 || c == 10)) e)

    nine : (c == 9) ≡ false
    nine = or_first (c == 9) (c == 10) others

    ten : (c == 10) ≡ false
    ten = or_second (c == 9) (c == 10) others

    by_space : (b : Bool) → (c == 32) ≡ b → spaced c ≡ c
    by_space true is = subst (λ (z : ℕ). spaced z ≡ z) (sym (eqb-true c 32 is)) refl
    by_space false is = λ j. cond (is j || nine j || ten j || thirteen j) 32 c

-- a text of such characters stands for itself
pub plain_lines : (in_value : Bool) (cs : List ℕ) → are_plain in_value cs ≡ true → map (shown in_value) (lines_of cs) ≡ cs
plain_lines in_value [] e = refl
plain_lines in_value (c ∷ cs) e = by_test (λ h. plain_lines in_value cs h) (is_plain in_value c) refl e
  where
    by_test : (are_plain in_value cs ≡ true → map (shown in_value) (lines_of cs) ≡ cs) → (b : Bool) → is_plain in_value c ≡ b → not (is_filled (cond b (after (is_plain in_value) cs) (c ∷ cs))) ≡ true
        → map (shown in_value) (lines_from false (c ∷ cs)) ≡ c ∷ cs
    by_test others true is more =
        let returned : (c == 13) ≡ false = no_return in_value c is in
        let here : map (shown in_value) (lines_from false (c ∷ cs)) ≡ shown in_value c ∷ map (shown in_value) (lines_from false cs) =
        λ j. map (shown in_value) (cond (returned j) (10 ∷ []) (c ∷ []) ++ lines_from (returned j) cs) in
        here ∙ (λ j. shown_plain in_value c is j ∷ others more j)
    by_test others false is more = absurd cc
