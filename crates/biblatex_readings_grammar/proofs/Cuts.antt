-- Texts between marks are those at which a text is cut.
use Rattle.std.proofs.Common.{◌≡◌, Bool, true, false, List, [], ◌∷◌, ◌++◌, refl, ap, ◌∙◌}
use Rattle.std.specs.Prelude.{if◌then◌else◌}
use Rattle.biblatex_lists.specs.declared.styled_char.StyledChar.{StyledChar}
use Rattle.biblatex_lists.specs.Parts.{before_first}
use Rattle.biblatex_readings_grammar.specs.Words.{Text, AllAnswer, IsCutAt}

-- What the reader does at a mark, by a test of the mark: the reader's marks have no name outside its crate, and where a definition of this
-- crate has one of them, the same with a test is equal to it by computing.
abbrev pub cut_by : (StyledChar → Bool) → Text → List Text
cut_by test [] = [] ∷ []
cut_by test (s ∷ ss) = if test s then [] ∷ cut_by test ss else before_first (s ∷ []) (cut_by test ss)

-- a mark at the start ends an empty text
pub mark_first : (test : StyledChar → Bool) (s : StyledChar) (ss : Text) → test s ≡ true → cut_by test (s ∷ ss) ≡ [] ∷ cut_by test ss
mark_first test s ss e = rw e refl

-- another character is of the first text
other_first : (test : StyledChar → Bool) (s : StyledChar) (ss : Text) → test s ≡ false → cut_by test (s ∷ ss) ≡ before_first (s ∷ []) (cut_by test ss)
other_first test s ss e = rw e refl

-- a text without marks is not cut
pub no_mark : (test : StyledChar → Bool) (p : Text) → AllAnswer test false p → cut_by test p ≡ p ∷ []
no_mark test [] all = refl
no_mark test (s ∷ p) all = other_first test s p all.0 ∙ ap (before_first (s ∷ [])) (no_mark test p all.1)

-- the first mark ends the first text
pub mark_after : (test : StyledChar → Bool) (p : Text) (s : StyledChar) (rest : Text) → AllAnswer test false p → test s ≡ true → cut_by test (p ++ s ∷ rest) ≡ p ∷ cut_by test rest
mark_after test [] s rest all is = mark_first test s rest is
mark_after test (t ∷ p) s rest all is = other_first test t (p ++ s ∷ rest) all.0 ∙ ap (before_first (t ∷ [])) (mark_after test p s rest all.1 is)

-- a text is cut as the relation says
pub cut_is : (test : StyledChar → Bool) (ps : List Text) (ss : Text) → IsCutAt test ss ps → cut_by test ss ≡ ps
cut_is test [] ss cut = absurd cut
cut_is test (p ∷ []) ss (e, all) = ap (cut_by test) e ∙ no_mark test p all
cut_is test (p ∷ q ∷ ps) ss (s, rest, e, is, all, more) =
    ap (cut_by test) e ∙ (mark_after test p s rest all is ∙ ap (λ (x : List Text). p ∷ x) (cut_is test (q ∷ ps) rest more))

-- The texts between the marks of a text.
pub record Cut (test : StyledChar → Bool) (ss : Text) : Type 0 where
  pub parts : List Text
  pub is : IsCutAt test ss parts

-- one more character of the first text
longer : (test : StyledChar → Bool) (s : StyledChar) (ps : List Text) (ss : Text) → test s ≡ false → IsCutAt test ss ps → Cut test (s ∷ ss)
longer test s [] ss other cut = absurd cut
longer test s (p ∷ []) ss other (e, all) = record { parts = (s ∷ p) ∷ []; is = (ap (λ (x : Text). s ∷ x) e, (other, all)) }
longer test s (p ∷ q ∷ ps) ss other (t, rest, e, is, all, more) = record { parts = (s ∷ p) ∷ q ∷ ps; is = (t, rest, ap (λ (x : Text). s ∷ x) e, is, (other, all), more) }

-- a mark before the first text
one_more : (test : StyledChar → Bool) (s : StyledChar) (ps : List Text) (ss : Text) → test s ≡ true → IsCutAt test ss ps → IsCutAt test (s ∷ ss) ([] ∷ ps)
one_more test s [] ss is cut = absurd cut
one_more test s (p ∷ ps) ss is cut = (s, ss, refl, is, tt, cut)

-- each text is cut in some way
pub cut_of : (test : StyledChar → Bool) (ss : Text) → Cut test ss
cut_of test [] = record { parts = [] ∷ []; is = (refl, tt) }
cut_of test (s ∷ ss) = by_test (cut_of test ss) (test s) refl
  where
    by_test : Cut test ss → (b : Bool) → test s ≡ b → Cut test (s ∷ ss)
    by_test more true e = record { parts = [] ∷ more.parts; is = one_more test s more.parts ss e more.is }
    by_test more false e = longer test s more.parts ss e more.is
