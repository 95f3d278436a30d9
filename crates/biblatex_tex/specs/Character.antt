-- Classes of characters. Characters are numbers.
use Rattle.std.specs.Prelude.{ℕ, Bool, not, ◌==◌, ◌||◌}
use Rattle.std.specs.Char.{is_ascii_alphabetic}
use Rattle.laws.specs.Characters.{tab, line_feed, form_feed, carriage_return, space, dollar_sign, hyphen, backslash, open_brace, close_brace, tilde}
use Rattle.biblatex_tex.specs.declared.character.Class.{Class}
use Rattle.biblatex_tex.specs.declared.character.Class.TheVariants.{Blank, Letter, Hyphen, Plain}

-- space, tab, line feed, form feed, carriage return
abbrev pub is_blank : ℕ → Bool
is_blank c = c == space || c == tab || c == line_feed || c == form_feed || c == carriage_return

-- a character that begins nothing but itself: none of \ { } $ ~ -
abbrev pub is_plain : ℕ → Bool
is_plain c = not (c == backslash || c == open_brace || c == close_brace || c == dollar_sign || c == tilde || c == hyphen)

-- whether a character is of a class
unfoldable pub passes : Class → ℕ → Bool
passes Blank c = is_blank c
passes Letter c = is_ascii_alphabetic c
passes Hyphen c = c == hyphen
passes Plain c = is_plain c
