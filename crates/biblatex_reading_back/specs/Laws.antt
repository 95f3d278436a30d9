-- The laws of written contents.
use Rattle.std.specs.Prelude.{◌≡◌, ◌↔◌, ℕ, Bool, true, false, List, Ok}
use Rattle.biblatex_content.specs.declared.chunk.Kind.TheVariants.{Verbatim}
use Rattle.biblatex_content.specs.Ordinary.{ordinary}
use Rattle.biblatex_content.specs.Styled.{Member, letters}
use Rattle.biblatex_content.specs.Tidy.{tidied}
use Rattle.biblatex_content.specs.Verbatim.{verbatim_text}
use Rattle.biblatex_content.specs.Writing.{written_content}
use Rattle.biblatex_grammar.specs.Balanced.{Balanced, Braces, Stands, written}
use Rattle.biblatex_writing.specs.SettledContent.{is_tidy_styled, is_settled_content}

-- A text is tidy exactly where tidying leaves it as it is.
abbrev pub TidyTextsStay : Type 0
TidyTextsStay = (ms : List Member) → (is_tidy_styled ms ≡ true) ↔ (tidied ms ≡ ms)

-- A settled content of a verbatim field is what is read of the text that is written of it.
abbrev pub VerbatimContentsReadBack : Type 0
VerbatimContentsReadBack = (ms : List Member) → is_settled_content true ms ≡ true → tidied (letters Verbatim (verbatim_text (written_content true ms))) ≡ ms

-- A settled content of an ordinary field is what is read of the text that is written of it, and tidying leaves it as it is.
abbrev pub OrdinaryContentsReadBack : Type 0
OrdinaryContentsReadBack = (ms : List Member) → is_settled_content false ms ≡ true → (ordinary (written_content false ms) ≡ Ok ms) × (tidied ms ≡ ms)

-- a text that may stand in the braces of a piece, by its braces
pub record IsBalancedText (cs : List ℕ) : Type 0 where
  pub tree : Balanced
  pub stands : Stands Braces tree
  pub text : cs ≡ written tree

abbrev pub WrittenContentsAreBalanced : Type 0
WrittenContentsAreBalanced = (is_verbatim : Bool) (ms : List Member) → is_settled_content is_verbatim ms ≡ true → IsBalancedText (written_content is_verbatim ms)
