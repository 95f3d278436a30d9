-- Classes of characters. Characters are numbers.
use Rattle.std.specs.Prelude.{ℕ, Bool, ◌==◌, ◌||◌}
use Rattle.laws.specs.Characters.{number_sign, dollar_sign, percent_sign, ampersand, backslash, circumflex, underscore, open_brace, close_brace, tilde}

-- { }
abbrev pub is_brace : ℕ → Bool
is_brace c = c == open_brace || c == close_brace

-- { } # & % $ _
abbrev pub is_reserved : ℕ → Bool
is_reserved c = is_brace c || c == number_sign || c == ampersand || c == percent_sign || c == dollar_sign || c == underscore

-- { } # & % $ _ \ ~ ^
abbrev pub is_escapable : ℕ → Bool
is_escapable c = is_reserved c || c == backslash || c == tilde || c == circumflex
