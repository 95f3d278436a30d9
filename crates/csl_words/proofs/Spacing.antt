-- Texts in which runs of white space are one space, character after character.
use Rattle.std.proofs.Common.{◌≡◌, ℕ, Bool, true, false, cond, eqb, List, [], ◌∷◌, ◌++◌, refl, sym, ap, ◌∙◌, append_assoc}
use Rattle.std.specs.Prelude.{not, ◌&&◌, ◌||◌}
use Rattle.std.proofs.lemmas.Bool.{false≢true, eqb-true, and_parts}
use Rattle.std.proofs.lemmas.List.{append-nil}
use Rattle.laws.specs.Characters.{space}
use Rattle.xml_text.specs.Character.{is_space}
use Rattle.csl_words.specs.Printing.{spaced_part, spaced_from, stays, all_stay}

-- what was appended, and what the rest of the text becomes
abbrev pub Appends : List ℕ → Bool → List ℕ → List ℕ → Type 0
Appends so_far after_space rest all = so_far ++ spaced_from after_space rest ≡ all

-- one more character
pub appends_more : (after_space white : Bool) (so_far now rest more all : List ℕ) (c : ℕ) → Appends so_far after_space rest all → rest ≡ c ∷ more → now ≡ so_far ++ spaced_part after_space c
    → white ≡ is_space c → Appends now white more all
appends_more after_space white so_far now rest more all c is e f same =
    let part = spaced_part after_space c in
    let others = spaced_from (is_space c) more in
    (λ j. f j ++ spaced_from (same j) more)
    ∙ (append_assoc so_far part others ∙ (ap (λ (x : List ℕ). so_far ++ spaced_from after_space x) (sym e) ∙ is))

-- nothing is left
pub appends_end : (after_space : Bool) (so_far rest all : List ℕ) → Appends so_far after_space rest all → rest ≡ [] → so_far ≡ all
appends_end after_space so_far rest all is e = sym (append-nil so_far) ∙ (ap (λ (x : List ℕ). so_far ++ spaced_from after_space x) (sym e) ∙ is)

-- a character that stays
part_stays : (after_space : Bool) (c : ℕ) → stays after_space c ≡ true → spaced_part after_space c ≡ c ∷ []
part_stays after_space c = by_tests after_space (is_space c)
  where
    by_tests : (met white : Bool) → (not white || (eqb c space && not met)) ≡ true → cond white (cond met [] (space ∷ [])) (c ∷ []) ≡ c ∷ []
    by_tests met false e = refl
    by_tests true true e = absurd (false≢true (and_parts (eqb c space) false e).1)
    by_tests false true e = ap (λ (x : ℕ). x ∷ []) (sym (eqb-true c space (and_parts (eqb c space) true e).0))

-- a text whose white space is single spaces stays as it is
pub text_stays : (after_space : Bool) (cs : List ℕ) → all_stay after_space cs ≡ true → spaced_from after_space cs ≡ cs
text_stays after_space [] e = refl
text_stays after_space (c ∷ cs) e =
    let both = and_parts (stays after_space c) (all_stay (is_space c) cs) e in
    λ j. part_stays after_space c both.0 j ++ text_stays (is_space c) cs both.1 j
