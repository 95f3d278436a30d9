-- The characters of styled texts.
use Rattle.std.proofs.Common.{◌≡◌, ℕ, Bool, true, false, List, [], ◌∷◌, ◌++◌, refl, ap}
use Rattle.std.proofs.lemmas.Grind.{flat_map-append}
use Rattle.biblatex_content.specs.Styled.{Member, letters}
use Rattle.biblatex_lists.specs.declared.styled_char.StyledChar.{StyledChar}
use Rattle.biblatex_lists.specs.StyledChars.{in_style, of_style, of_member, styled_chars, plain}
use Rattle.biblatex_lists.specs.Writing.{kind}

-- the characters of text of one kind
pub chars_of_letters : (b : Bool) (cs : List ℕ) → styled_chars (letters (kind b) cs) ≡ of_style b cs
chars_of_letters true [] = refl
chars_of_letters false [] = refl
chars_of_letters true (c ∷ cs) = ap (λ (ss : List StyledChar). in_style true c ∷ ss) (chars_of_letters true cs)
chars_of_letters false (c ∷ cs) = ap (λ (ss : List StyledChar). in_style false c ∷ ss) (chars_of_letters false cs)

pub chars_of_both : (ms ns : List Member) → styled_chars (ms ++ ns) ≡ styled_chars ms ++ styled_chars ns
chars_of_both ms ns = flat_map-append of_member ms ns

-- the characters without the style that they were given
pub plain_of_style : (b : Bool) (cs : List ℕ) → plain (of_style b cs) ≡ cs
plain_of_style b [] = refl
plain_of_style b (c ∷ cs) = ap (λ (ds : List ℕ). c ∷ ds) (plain_of_style b cs)
