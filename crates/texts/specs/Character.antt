-- Classes of characters. Characters are numbers.
use Rattle.std.specs.Prelude.{ℕ, Bool, not, ◌==◌, ◌||◌}
use Rattle.std.specs.Char.{is_ascii_alphabetic, is_ascii_digit, is_whitespace}
use Rattle.laws.specs.Characters.{space, percent_sign, hyphen, question_mark, tilde, no_break_space, en_dash, em_dash}
use Rattle.texts.specs.declared.character.Class.{Class}
use Rattle.texts.specs.declared.character.Class.TheVariants.{Letter, Digit, Space, Dash, Mark, Blank, Apart, Name}

-- Whether a character is of a class. The dashes are hyphen, en dash and em dash, the marks ? ~ % and the space that
-- does not break.
unfoldable pub passes : Class → ℕ → Bool
passes Letter c = is_ascii_alphabetic c
passes Digit c = is_ascii_digit c
passes Space c = c == space
passes Dash c = c == hyphen || c == en_dash || c == em_dash
passes Mark c = c == question_mark || c == tilde || c == percent_sign || c == no_break_space
passes Blank c = is_whitespace c
passes Apart c = is_whitespace c || c == hyphen
passes Name c = not (is_whitespace c || c == hyphen)
