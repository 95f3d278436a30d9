-- The laws that tie the grammars of integers and of pages to what is read.
use Rattle.std.specs.Prelude.{◌≡◌, ◌↔◌, ℕ, List, Result, ℤ}
use Rattle.std.specs.declared.ops.Range.{Range}
use Rattle.biblatex_dates.specs.declared.error.TypeErrorKind.{TypeErrorKind}
use Rattle.biblatex_values.specs.Integer.{integer_of}
use Rattle.biblatex_values.specs.Pages.{range_of, ranges_of}
use Rattle.biblatex_readings_grammar.specs.Integers.{IsInteger}
use Rattle.biblatex_readings_grammar.specs.Pages.{IsOneRange, AreRanges}
use Rattle.biblatex_readings_grammar.specs.Answers.{IsAnswer}

-- Bytes are read as this integer exactly where the grammar says so, and all others are refused as unreadable.
abbrev pub IntegerIsWhatIsRelated : Type 0
IntegerIsWhatIsRelated = (bs : List ℕ) (answer : Result ℤ TypeErrorKind) → (integer_of bs ≡ answer) ↔ IsAnswer (IsInteger bs) answer

-- A text is read as this range of pages exactly where the grammar says so, and every other text is refused as unreadable.
abbrev pub RangeIsWhatIsRelated : Type 0
RangeIsWhatIsRelated = (cs : List ℕ) (answer : Result (Range ℕ) TypeErrorKind) → (range_of cs ≡ answer) ↔ IsAnswer (IsOneRange cs) answer

-- A text is read as these ranges of pages exactly where the grammar says so, and every other text is refused as unreadable.
abbrev pub RangesAreWhatIsRelated : Type 0
RangesAreWhatIsRelated = (cs : List ℕ) (answer : Result (List (Range ℕ)) TypeErrorKind) → (ranges_of cs ≡ answer) ↔ IsAnswer (AreRanges cs) answer
