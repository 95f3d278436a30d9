-- Texts of white space alone, for crates that do not know the classes of characters.
use Rattle.std.proofs.Common.{◌≡◌, ℕ, Bool, true, false, List, [], ◌∷◌, ◌++◌, refl, sym, ap, ◌∙◌, subst}
use Rattle.std.proofs.lemmas.List.{append-nil}
use Rattle.laws.specs.Runs.{prefix_of, after, AllPassTest}
use Rattle.laws.specs.Text.{is_filled}
use Rattle.laws.proofs.Runs.{prefix-after, all-prefix}
use Rattle.xml_text.specs.Character.{is_space, passes}
use Rattle.xml_text.specs.Reading.{after_space}
use Rattle.xml_text.specs.declared.character.Class.TheVariants.{Space}

space_is : (c : ℕ) → passes Space c ≡ is_space c
unfolding passes
space_is c = refl

all_space : (t : List ℕ) → AllPassTest (passes Space) t → AllPassTest is_space t
all_space [] all = tt
all_space (c ∷ t) (one, all) = (sym (space_is c) ∙ one, all_space t all)

-- where nothing is left after white space, all of a text is white space
pub space_alone : (t : List ℕ) → is_filled (after_space t) ≡ false → AllPassTest is_space t
space_alone t none = by_rest (after_space t) refl none
  where
    by_rest : (rest : List ℕ) → after_space t ≡ rest → is_filled rest ≡ false → AllPassTest is_space t
    by_rest [] is f =
        let whole : t ≡ prefix_of (passes Space) t ++ [] = prefix-after (passes Space) t ∙ ap (λ (y : List ℕ). prefix_of (passes Space) t ++ y) is in
        all_space t (subst (AllPassTest (passes Space)) (sym (whole ∙ append-nil (prefix_of (passes Space) t))) (all-prefix (passes Space) t))
    by_rest (c ∷ cs) is f = absurd cc

-- and the other way round
pub blank_ends : (t : List ℕ) → AllPassTest is_space t → is_filled (after_space t) ≡ false
blank_ends [] all = refl
blank_ends (c ∷ t) (one, all) =
    let here : passes Space c ≡ true = space_is c ∙ one in
    rw here (blank_ends t all)
