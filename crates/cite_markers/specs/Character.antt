-- Classes of characters in a marker. Characters are numbers.
use Rattle.std.specs.Prelude.{ℕ, Bool, not, ◌==◌, ◌||◌}
use Rattle.std.specs.Char.{is_ascii_alphabetic, is_whitespace}
use Rattle.laws.specs.Characters.{line_feed, carriage_return, hyphen, semicolon, close_bracket}
use Rattle.cite_markers.specs.declared.class.Class.{Class}
use Rattle.cite_markers.specs.declared.class.Class.TheVariants.{Word, Name, Value}

-- Whether a character may stand in a word, a name or a value. A word has letters and hyphens; a name no white space, semicolon or
-- closing bracket; a value no semicolon, closing bracket or end of line.
unfoldable pub passes : Class → ℕ → Bool
passes Word c = is_ascii_alphabetic c || c == hyphen
passes Name c = not (is_whitespace c || c == semicolon || c == close_bracket)
passes Value c = not (c == semicolon || c == close_bracket || c == carriage_return || c == line_feed)
