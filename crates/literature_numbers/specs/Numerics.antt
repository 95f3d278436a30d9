-- Numbers with letters before and after: the value that a text spells.
use Rattle.std.specs.Prelude.{ℕ, List, [], ◌∷◌, map, Option, Some, None, Result, Ok, ℤ}
use Rattle.laws.specs.Results.{◌>>=◌}
use Rattle.laws.specs.Steps.{each}
use Rattle.laws.specs.Runs.{prefix_of, after}
use Rattle.laws.specs.Text.{if_filled}
use Rattle.texts.specs.Character.{passes}
use Rattle.texts.specs.Reading.{number_at, end_at}
use Rattle.literature_numbers.specs.Numbers.{separator_at}
use Rattle.texts.specs.declared.character.Class.TheVariants.{Letter}
use Rattle.literature_numbers.specs.declared.separator.NumericDelimiter.{NumericDelimiter}
use Rattle.texts.specs.declared.reader.Unreadable.{Unreadable}

-- numbers one after the other, each with the separator after it
abbrev pub Numbers : Type 0
Numbers = List (ℤ × Option NumericDelimiter)

-- one number, or a set of numbers
pub data Value : Type 0 where
  Number : ℤ → Value
  Set : Numbers → Value

-- a value with letters before and after it, where there are any
pub record Numeral : Type 0 where
  pub value : Value
  pub prefix : Option (List ℕ)
  pub suffix : Option (List ℕ)

-- the numbers in order
abbrev pub numbers_in : Value → List ℤ
numbers_in (Number n) = n ∷ []
numbers_in (Set ns) = map (λ n. n.0) ns

-- the first number, where no other one follows
abbrev pub only_one : List ℤ → Option ℤ
only_one [] = None
only_one (n ∷ []) = Some n
only_one (n ∷ m ∷ ns) = None

-- one number, without letters
abbrev pub plain : ℤ → Numeral
plain n = record { value = Number n; prefix = None; suffix = None }

-- a number, and others with the separators before them
abbrev pub linked : ℤ → List (NumericDelimiter × ℤ) → Numbers
linked n [] = (n, None) ∷ []
linked n (other ∷ others) = (n, Some other.0) ∷ linked other.1 others

-- one number alone is no set
abbrev pub value_of : Numbers → Value
value_of [] = Set []
value_of (n ∷ []) = Number n.0
value_of (n ∷ m ∷ ns) = Set (n ∷ m ∷ ns)

-- after a separator a number is wanted
abbrev pub number_after : Option NumericDelimiter × List ℕ → Result (Option (NumericDelimiter × ℤ) × List ℕ) Unreadable
number_after (None, rest) = Ok (None, rest)
number_after (Some d, rest) = number_at rest >>= λ n. Ok (Some (d, n.0), n.1)

-- a separator and a number, or nothing
unfoldable pub next_number_at : List ℕ → Result (Option (NumericDelimiter × ℤ) × List ℕ) Unreadable
next_number_at cs = number_after (separator_at cs)

-- a number, and further ones after separators
unfoldable pub numbers_at : List ℕ → Result (Numbers × List ℕ) Unreadable
numbers_at cs = do
  first ← number_at cs
  others ← each next_number_at first.1
  Ok (linked first.0 others.0, others.1)

-- letters, numbers and letters, up to the end; no letters are no prefix and no suffix
unfoldable pub numeral_of : List ℕ → Result Numeral Unreadable
numeral_of cs = do
  numbers ← numbers_at (after (passes Letter) cs)
  rest ← end_at (after (passes Letter) numbers.1)
  Ok (record { value = value_of numbers.0; prefix = if_filled (prefix_of (passes Letter) cs); suffix = if_filled (prefix_of (passes Letter) numbers.1) })
