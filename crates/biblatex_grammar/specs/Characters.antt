-- The characters of the grammar of raw texts. Characters are numbers.
use Rattle.std.specs.Prelude.{◌≡◌, ℕ, Bool, true, not, ◌==◌, ◌||◌, List, [], ◌∷◌, ◌++◌, map}
use Rattle.std.specs.Char.{is_whitespace, is_control, to_ascii_lowercase}
use Rattle.std.specs.List.{list_any}
use Rattle.laws.specs.Characters.{double_quote, number_sign, percent_sign, apostrophe, open_parenthesis, close_parenthesis, comma, hyphen, colon, less_than_sign, equals_sign, greater_than_sign, at_sign, backslash, open_brace, close_brace, tilde}
use Rattle.laws.specs.Runs.{AllPassTest, Bars}

-- The character is one of these.
abbrev pub is_one_of : List ℕ → ℕ → Bool
is_one_of marks c = list_any (λ mark. c == mark) marks

-- White space and control characters stand in no key and in no identifier.
abbrev pub is_blank_or_control : ℕ → Bool
is_blank_or_control c = is_whitespace c || is_control c

-- the marks that stand in no identifier: @ { } " # ' ( ) , = % \ ~
abbrev pub marks : List ℕ
marks = at_sign ∷ open_brace ∷ close_brace ∷ double_quote ∷ number_sign ∷ apostrophe ∷ open_parenthesis ∷ close_parenthesis ∷ comma ∷ equals_sign ∷ percent_sign ∷ backslash ∷ tilde ∷ []

-- A character of an identifier is none of these marks.
abbrev pub is_of_identifier : ℕ → Bool
is_of_identifier c = not (is_blank_or_control c || is_one_of marks c)

-- The first character of an identifier is none of : < - > either.
abbrev pub is_first_of_identifier : ℕ → Bool
is_first_of_identifier c = not (not (is_of_identifier c) || is_one_of (colon ∷ less_than_sign ∷ hyphen ∷ greater_than_sign ∷ []) c)

-- A character of a key is no comma, no closing brace and no percent sign, nor what closes its item.
abbrev pub is_of_key : ℕ → ℕ → Bool
is_of_key closing c = not (is_blank_or_control c || is_one_of (comma ∷ close_brace ∷ percent_sign ∷ closing ∷ []) c)

-- A text, then what follows it: the text is all of such characters that stand there.
abbrev pub IsRun : (ℕ → Bool) → List ℕ → List ℕ → List ℕ → Type 0
IsRun test cs t rest = (cs ≡ t ++ rest) × AllPassTest test t × Bars test rest

-- A first character begins the text.
abbrev pub BeginsWith : (ℕ → Bool) → List ℕ → Type 0
BeginsWith test [] = ⊥
BeginsWith test (c ∷ cs) = test c ≡ true

-- A name is this word, in any case of its ASCII letters.
abbrev pub IsWord : List ℕ → List ℕ → Type 0
IsWord word name = map to_ascii_lowercase name ≡ word
