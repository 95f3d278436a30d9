-- What is written of a verbatim content is read back.
use Rattle.std.proofs.Common.{◌≡◌, ℕ, Bool, true, false, true≢false, ◌||◌, ◌==◌, List, [], ◌∷◌, ◌++◌, refl, sym, ap, ◌∙◌}
use Rattle.std.specs.Prelude.{if◌then◌else◌}
use Rattle.std.specs.List.{list_all}
use Rattle.laws.specs.Characters.{backslash, circumflex, tilde}
use Rattle.biblatex_content.specs.declared.chunk.Kind.TheVariants.{Normal, Verbatim}
use Rattle.biblatex_content.specs.Styled.{Member, Letter, Math, letters}
use Rattle.biblatex_content.specs.Tidy.{tidied}
use Rattle.biblatex_content.specs.Verbatim.{is_brace, is_reserved, is_escapable, is_verbatim_escape, verbatim_from, verbatim_text}
use Rattle.biblatex_content.specs.Writing.{escaped, written_as_is, written_verbatim}
use Rattle.biblatex_content.proofs.Tests.{first_of_two, second_of_two}
use Rattle.biblatex_writing.specs.SettledContent.{is_tidy_styled, is_verbatim, is_settled_verbatim}
use Rattle.biblatex_reading_back.proofs.TidySame.{tidied_same}

-- what a backslash escapes where it is written, it escapes where it is read
escape_read : (c : ℕ) → is_escapable c true false ≡ true → is_escapable c true true ≡ true
escape_read c e = by_tests (is_brace c) (is_reserved c) (c == backslash) e
  where
    by_tests : (b r s : Bool) → b || s ≡ true → b || r || s || (c == tilde) || (c == circumflex) ≡ true
    by_tests true r s e = refl
    by_tests false true s e = refl
    by_tests false false true e = refl
    by_tests false false false e = absurd (true≢false (sym e))

no_backslash : (a b : Bool) → a || b ≡ false → b ≡ false
no_backslash true b e = absurd (true≢false e)
no_backslash false b e = e

other_way : (a b : Bool) → a || b ≡ false → b || a ≡ false
other_way true b e = absurd (true≢false e)
other_way false true e = absurd (true≢false e)
other_way false false e = refl

-- a character is read back
character_back : (c : ℕ) (cs : List ℕ) → verbatim_from false (written_as_is c ++ cs) ≡ c ∷ verbatim_from false cs
character_back c cs = by_escape (is_escapable c true false) refl
  where
    by_escape : (b : Bool) → is_escapable c true false ≡ b → verbatim_from false (escaped b c ++ cs) ≡ c ∷ verbatim_from false cs
    by_escape true e = ap (λ (t : Bool). (if t then c ∷ [] else backslash ∷ c ∷ []) ++ verbatim_from false cs) (escape_read c e)
    by_escape false e =
        ap (λ (t : Bool). (if t then [] else c ∷ []) ++ verbatim_from (is_verbatim_escape false c) cs) (other_way (is_brace c) (c == backslash) e)
        ∙ ap (λ (t : Bool). c ∷ verbatim_from t cs) (no_backslash (is_brace c) (c == backslash) e)

letters_back : (ms : List Member) → list_all is_verbatim ms ≡ true → letters Verbatim (verbatim_text (written_verbatim ms)) ≡ ms
letters_back [] all = refl
letters_back (Letter Normal c ∷ ms) all = absurd (true≢false (sym all))
letters_back (Letter Verbatim c ∷ ms) all = ap (letters Verbatim) (character_back c (written_verbatim ms)) ∙ ap (λ (x : List Member). Letter Verbatim c ∷ x) (letters_back ms all)
letters_back (Math text ∷ ms) all = absurd (true≢false (sym all))

pub verbatim_back : (ms : List Member) → is_settled_verbatim ms ≡ true → tidied (letters Verbatim (verbatim_text (written_verbatim ms))) ≡ ms
verbatim_back ms settled =
    ap tidied (letters_back ms (second_of_two (is_tidy_styled ms) (list_all is_verbatim ms) settled)) ∙ tidied_same ms (first_of_two (is_tidy_styled ms) (list_all is_verbatim ms) settled)
