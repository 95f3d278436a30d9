-- En dashes and noughts of numbers in texts.
use Rattle.std.specs.Prelude.{ℕ, ◌==◌, ◌&&◌, ◌||◌, Bool, false, not, List, [], ◌∷◌, if◌then◌else◌}
use Rattle.std.specs.Char.{is_ascii_digit}
use Rattle.laws.specs.Characters.{ampersand, comma, hyphen, digit_zero, en_dash}
use Rattle.laws.specs.Runs.{after, prefix_of}

-- a comma or an ampersand, which stand between ranges
abbrev pub parts_ranges : ℕ → Bool
parts_ranges c = c == comma || c == ampersand

-- a hyphen or an en dash
abbrev pub is_dash : ℕ → Bool
is_dash c = c == hyphen || c == en_dash

-- none of them
abbrev pub is_undivided : ℕ → Bool
is_undivided c = not (is_dash c || parts_ranges c)

abbrev pub begins_dash : List ℕ → Bool
begins_dash [] = false
begins_dash (c ∷ cs) = is_dash c

-- whether a dash stands before the next comma or ampersand
abbrev pub dash_follows : List ℕ → Bool
dash_follows cs = begins_dash (after is_undivided cs)

-- a hyphen that is the only dash between commas and ampersands is an en dash; whether a dash has come
abbrev pub printed : Bool → ℕ → List ℕ → ℕ
printed has_come c cs = if c == hyphen && not (has_come || dash_follows cs) then en_dash else c

-- whether a dash has come once a character has, since the last comma or ampersand
abbrev pub has_come_after : Bool → ℕ → Bool
has_come_after has_come c = not (parts_ranges c) && (has_come || is_dash c)

-- each character of a text as it is printed
abbrev pub dashed_after : Bool → List ℕ → List ℕ
dashed_after has_come [] = []
dashed_after has_come (c ∷ cs) =
    printed has_come c cs ∷ dashed_after (has_come_after has_come c) cs

-- a text with the hyphens of its ranges as en dashes
abbrev pub dashed : List ℕ → List ℕ
dashed cs = dashed_after false cs

abbrev pub begins_digit : List ℕ → Bool
begins_digit [] = false
begins_digit (c ∷ cs) = is_ascii_digit c

-- whether a nought stands before the other digits of a number; whether it is inside one
abbrev pub is_padding : Bool → ℕ → List ℕ → Bool
is_padding is_inside c cs = not is_inside && (c == digit_zero && begins_digit cs)

-- the same of one of the characters of a text
abbrev pub padding_after : Bool → List ℕ → Bool
padding_after is_inside [] = false
padding_after is_inside (c ∷ cs) = is_padding is_inside c cs || padding_after (is_ascii_digit c) cs

-- whether a number of a text begins with noughts, which are not printed of its value
abbrev pub has_padding : List ℕ → Bool
has_padding cs = padding_after false cs

-- what stands before the first dash, comma or ampersand
abbrev pub first_in : List ℕ → List ℕ
first_in cs = prefix_of is_undivided cs
