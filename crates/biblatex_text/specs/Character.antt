-- Characters of keys and identifiers. Characters are numbers.
use Rattle.std.specs.Prelude.{ℕ, Bool, not, ◌==◌, ◌||◌}
use Rattle.std.specs.Char.{is_whitespace, is_control}
use Rattle.laws.specs.Characters.{double_quote, number_sign, percent_sign, apostrophe, open_parenthesis, close_parenthesis, comma, hyphen, colon, less_than_sign, equals_sign, greater_than_sign, at_sign, backslash, open_brace, close_brace, tilde}

-- one of @ { } " # ' ( ) , = % \ ~
abbrev pub is_special : ℕ → Bool
is_special c =
    c == at_sign || c == open_brace || c == close_brace || c == double_quote || c == number_sign || c == apostrophe
    || c == open_parenthesis || c == close_parenthesis || c == comma || c == equals_sign || c == percent_sign || c == backslash || c == tilde

-- a character of a kind, a field's name or a bare value
abbrev pub is_id_continue : ℕ → Bool
is_id_continue c = not (is_whitespace c || is_control c || is_special c)

-- the first character of a kind or a field's name: none of : < - > either
abbrev pub is_id_start : ℕ → Bool
is_id_start c = not (is_whitespace c || is_control c || is_special c || c == colon || c == less_than_sign || c == hyphen || c == greater_than_sign)

-- a character of a key: no white space, no control character, none of , } %
abbrev pub is_key : ℕ → Bool
is_key c = not (is_whitespace c || is_control c || c == comma || c == close_brace || c == percent_sign)
