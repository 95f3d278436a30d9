-- Texts that count as numbers, as `E1425-E1431`: each of their stretches between dashes, commas and ampersands is one word with a digit.
use Rattle.std.specs.Prelude.{ℕ, Bool, true, false, ◌==◌, ◌||◌, List, [], ◌∷◌, if◌then◌else◌}
use Rattle.std.specs.Char.{is_ascii_digit, is_whitespace}
use Rattle.laws.specs.Characters.{ampersand, comma, hyphen, en_dash}
use Rattle.rendering_context.specs.declared.stretch.Stretch.{Stretch}
use Rattle.rendering_context.specs.declared.stretch.Stretch.TheVariants.{Empty, Letters, Digits, Closed, Wrong}

-- what stands between stretches
abbrev pub is_range_sign : ℕ → Bool
is_range_sign c = c == comma || c == ampersand || c == hyphen || c == en_dash

-- white space ends a word, which has a digit
abbrev pub after_space : Stretch → Stretch
after_space Empty = Empty
after_space Digits = Closed
after_space Closed = Closed
after_space s = Wrong

-- a sign ends a stretch, which has a word with a digit
abbrev pub after_sign : Stretch → Stretch
after_sign Digits = Empty
after_sign Closed = Empty
after_sign s = Wrong

-- one word only
abbrev pub after_digit : Stretch → Stretch
after_digit Empty = Digits
after_digit Letters = Digits
after_digit Digits = Digits
after_digit s = Wrong

abbrev pub after_letter : Stretch → Stretch
after_letter Empty = Letters
after_letter Letters = Letters
after_letter Digits = Digits
after_letter s = Wrong

abbrev pub next_stretch : Stretch → ℕ → Stretch
next_stretch s c =
    if is_whitespace c then after_space s
    else if is_range_sign c then after_sign s
    else if is_ascii_digit c then after_digit s
    else after_letter s

-- whether a text may end here
abbrev pub is_numeric_stretch : Stretch → Bool
is_numeric_stretch Digits = true
is_numeric_stretch Closed = true
is_numeric_stretch s = false

abbrev pub numeric_after : Stretch → List ℕ → Bool
numeric_after s [] = is_numeric_stretch s
numeric_after s (c ∷ cs) = numeric_after (next_stretch s c) cs

-- whether a text counts as numbers
abbrev pub is_numeric_text : List ℕ → Bool
is_numeric_text cs = numeric_after Empty cs
