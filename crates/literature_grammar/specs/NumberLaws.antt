-- The laws that tie the grammars of numbers and of pages to what is read.
use Rattle.std.specs.Prelude.{◌≡◌, ◌↔◌, ℕ, List, Result}
use Rattle.texts.specs.declared.reader.Unreadable.{Unreadable}
use Rattle.literature_numbers.specs.Numerics.{Numeral, numeral_of}
use Rattle.literature_numbers.specs.Pages.{Part, pages_of}
use Rattle.literature_grammar.specs.Numbers.{IsNumeral}
use Rattle.literature_grammar.specs.Pages.{ArePages}
use Rattle.literature_grammar.specs.Answers.{IsAnswer}

-- A text is read as this number with its letters exactly where the grammar says so, and every other text is refused.
abbrev pub NumeralIsWhatIsRelated : Type 0
NumeralIsWhatIsRelated = (cs : List ℕ) (answer : Result Numeral Unreadable) → (numeral_of cs ≡ answer) ↔ IsAnswer (IsNumeral cs) answer

-- No text spells two numbers with letters.
abbrev pub NumeralsAreUnique : Type 0
NumeralsAreUnique = (cs : List ℕ) (m n : Numeral) → IsNumeral cs m → IsNumeral cs n → m ≡ n

-- A text is read as these pages exactly where the grammar says so, and every other text is refused.
abbrev pub PagesAreWhatIsRelated : Type 0
PagesAreWhatIsRelated = (cs : List ℕ) (answer : Result (List Part) Unreadable) → (pages_of cs ≡ answer) ↔ IsAnswer (ArePages cs) answer

-- No text spells two lists of pages.
abbrev pub PagesAreUnique : Type 0
PagesAreUnique = (cs : List ℕ) (ps qs : List Part) → ArePages cs ps → ArePages cs qs → ps ≡ qs
