-- Brackets around a citation, for callers that print them.
use Rattle.std.specs.Prelude.{ℕ, Option, Some, None}
use Rattle.laws.specs.Characters.{open_parenthesis, close_parenthesis, open_bracket, close_bracket}

-- round brackets, square brackets, or none
pub data Brackets : Type 0 where
  round : Brackets
  square : Brackets
  no_brackets : Brackets

-- the character before what they enclose
abbrev pub left : Brackets → Option ℕ
left round = Some open_parenthesis
left square = Some open_bracket
left no_brackets = None

-- the character after it
abbrev pub right : Brackets → Option ℕ
right round = Some close_parenthesis
right square = Some close_bracket
right no_brackets = None
