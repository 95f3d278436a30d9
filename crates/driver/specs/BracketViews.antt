-- Brackets of the code.
use Rattle.driver.specs.Brackets as brackets
use Rattle.driver.specs.declared.brackets.Brackets.{Brackets}
use Rattle.driver.specs.declared.brackets.Brackets.TheVariants as variants

-- brackets
abbrev pub brackets_view : Brackets → brackets.Brackets
brackets_view variants.Round = brackets.round
brackets_view variants.Square = brackets.square
brackets_view variants.None = brackets.no_brackets
