-- What stands for characters in an ordinary field, and how commands are written. Each relation takes a text, and the text that follows.
-- Characters are numbers.
use Rattle.std.specs.Prelude.{◌≡◌, ℕ, Bool, true, not, ◌==◌, ◌||◌, List, [], ◌∷◌, ◌++◌, Some, None}
use Rattle.std.specs.Char.{is_ascii_alphabetic}
use Rattle.laws.specs.Characters.{dollar_sign, comma, hyphen, slash, space, backslash, tilde, no_break_space, thin_space}
use Rattle.laws.specs.Runs.{AllPassTest, Bars}
use Rattle.laws.specs.Text.{text, is_filled}
use Rattle.biblatex_tex.specs.Character.{is_blank, is_plain}
use Rattle.biblatex_tex.specs.Command.{sign_mark, letter_mark, letter_character}
use Rattle.biblatex_readings_grammar.specs.Characters.{is_reserved}
use Rattle.biblatex_readings_grammar.specs.Math.{LacksPartner}

-- All the blanks that stand there, perhaps none.
abbrev pub AreBlanks : List ℕ → List ℕ → Type 0
AreBlanks cs rest = (t : List ℕ) × (cs ≡ t ++ rest) × AllPassTest is_blank t × Bars is_blank rest

-- A command of letters is a backslash and the longest run of ASCII letters, one at least; blanks after it are skipped.
abbrev pub IsCommand : List ℕ → List ℕ → List ℕ → Type 0
IsCommand cs name rest = (a : List ℕ) × (cs ≡ backslash ∷ (name ++ a)) × AllPassTest is_ascii_alphabetic name × (is_filled name ≡ true) × Bars is_ascii_alphabetic a × AreBlanks a rest

-- a backslash or a blank
abbrev pub is_space_sign : ℕ → Bool
is_space_sign c = c == backslash || is_blank c

-- a hyphen or a slash
abbrev pub is_empty_sign : ℕ → Bool
is_empty_sign c = c == hyphen || c == slash

-- No earlier row has a backslash and this character: it is none of those above, no comma and no letter.
abbrev pub is_other_sign : ℕ → Bool
is_other_sign c = not (is_reserved c || is_space_sign c || c == comma || is_empty_sign c || is_ascii_alphabetic c)

-- The rows that give characters: what is written, what it gives, and what follows.
pub data Spells : List ℕ → List ℕ → List ℕ → Type 0 where
  -- `~`: a no-break space
  tie : (rest : List ℕ) → Spells (tilde ∷ rest) (no_break_space ∷ []) rest
  -- `\` and one of `{ } # & % $ _`: that character
  reserved : (c : ℕ) (rest : List ℕ) → is_reserved c ≡ true → Spells (backslash ∷ c ∷ rest) (c ∷ []) rest
  -- `\\`, or `\` and a blank: a space
  blank : (c : ℕ) (rest : List ℕ) → is_space_sign c ≡ true → Spells (backslash ∷ c ∷ rest) (space ∷ []) rest
  -- `\,`: a thin space
  thin : (rest : List ℕ) → Spells (backslash ∷ comma ∷ rest) (thin_space ∷ []) rest
  -- `\-` or `\/`: nothing
  empty : (c : ℕ) (rest : List ℕ) → is_empty_sign c ≡ true → Spells (backslash ∷ c ∷ rest) [] rest
  -- a command of letters that stands for a character
  named : (cs name : List ℕ) (c : ℕ) (rest : List ℕ) → IsCommand cs name rest → letter_mark (text name) ≡ None → letter_character (text name) ≡ Some c → Spells cs (c ∷ []) rest
  -- `\` and another character, which is no mark of an accent: that character
  other : (c : ℕ) (rest : List ℕ) → is_other_sign c ≡ true → sign_mark c ≡ None → Spells (backslash ∷ c ∷ rest) (c ∷ []) rest
  -- `$` without a partner: itself
  dollar : (rest : List ℕ) → LacksPartner rest → Spells (dollar_sign ∷ rest) (dollar_sign ∷ []) rest
  -- another character: itself
  itself : (c : ℕ) (rest : List ℕ) → is_plain c ≡ true → Spells (c ∷ rest) (c ∷ []) rest
