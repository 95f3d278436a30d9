-- The characters of a marker. Characters are numbers.
use Rattle.std.specs.Prelude.{◌≡◌, ℕ, Bool, true, false, not, ◌==◌, ◌||◌, List, [], ◌∷◌, ◌++◌}
use Rattle.std.specs.Char.{is_whitespace}
use Rattle.laws.specs.Characters.{line_feed, carriage_return, semicolon, close_bracket}
use Rattle.laws.specs.Runs.{AllPassTest, Bars}
use Rattle.laws.specs.Text.{is_filled}

-- A name has no white space, no semicolon and no closing bracket.
abbrev pub is_of_name : ℕ → Bool
is_of_name c = not (is_whitespace c || c == semicolon || c == close_bracket)

-- A value has no semicolon, no closing bracket and no end of a line.
abbrev pub is_of_value : ℕ → Bool
is_of_value c = not (c == semicolon || c == close_bracket || c == carriage_return || c == line_feed)

-- A text, then what follows it: the text is all of such characters that stand there, one at least.
abbrev pub IsRun : (ℕ → Bool) → List ℕ → List ℕ → List ℕ → Type 0
IsRun test cs t rest = (cs ≡ t ++ rest) × AllPassTest test t × Bars test rest × (is_filled t ≡ true)

-- A mark stands there, or it does not.
abbrev pub IsOptional : ℕ → List ℕ → Bool → List ℕ → Type 0
IsOptional mark cs true rest = cs ≡ mark ∷ rest
IsOptional mark cs false rest = (cs ≡ rest) × Bars (λ c. c == mark) cs

-- No white space stands at an end of a text.
abbrev pub IsTight : List ℕ → Type 0
IsTight t = Bars is_whitespace t × ((a : List ℕ) (c : ℕ) → t ≡ a ++ c ∷ [] → is_whitespace c ≡ false)
