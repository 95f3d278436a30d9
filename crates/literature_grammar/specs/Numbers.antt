-- Numbers with letters as they are written, as a grammar by cases. Each relation takes a text, what is spelled from its first character
-- on, and the text that follows. Characters are numbers.
use Rattle.std.specs.Prelude.{◌≡◌, ℕ, ◌≤◌, ◌<◌, ◌^◌, Bool, ◌==◌, ◌||◌, List, [], ◌∷◌, ◌++◌, length, Option, Some, None, ℤ, pos}
use Rattle.std.specs.Char.{is_ascii_digit, is_ascii_alphabetic}
use Rattle.std.specs.Str.Parse.{digits_value}
use Rattle.laws.specs.Characters.{space, ampersand, comma, hyphen, en_dash, em_dash}
use Rattle.laws.specs.Runs.{AllPassTest}
use Rattle.literature_numbers.specs.Numerics.{Numbers, Value, Number, Set, Numeral}
use Rattle.literature_numbers.specs.declared.separator.NumericDelimiter.{NumericDelimiter}
use Rattle.literature_numbers.specs.declared.separator.NumericDelimiter.TheVariants.{Comma, Ampersand, Hyphen}

-- a text, what it spells, and the text that follows
abbrev pub Spells : Type 0 → Type 1
Spells X = List ℕ → X → List ℕ → Type 0

-- Characters that pass a test, then what follows them.
abbrev pub IsOf : (ℕ → Bool) → Spells (List ℕ)
IsOf test cs t rest = (cs ≡ t ++ rest) × AllPassTest test t

-- A number is ASCII digits, one at least, and at most 2147483647.
abbrev pub IsNumber : Spells ℤ
IsNumber cs z rest = (t : List ℕ) × IsOf is_ascii_digit cs t rest × (1 ≤ length t) × (digits_value 10 t < 2 ^ 31) × (z ≡ pos (digits_value 10 t))

-- Letters are ASCII letters, one at least, or nothing.
abbrev pub AreLetters : Spells (Option (List ℕ))
AreLetters cs None rest = cs ≡ rest
AreLetters cs (Some t) rest = IsOf is_ascii_alphabetic cs t rest × (1 ≤ length t)

-- a space
abbrev pub is_space : ℕ → Bool
is_space c = c == space

-- a hyphen, an en dash or an em dash
abbrev pub is_dash : ℕ → Bool
is_dash c = c == hyphen || c == en_dash || c == em_dash

-- Spaces, perhaps none.
abbrev pub AreSpaces : List ℕ → List ℕ → Type 0
AreSpaces cs rest = (t : List ℕ) × IsOf is_space cs t rest

-- A comma, an ampersand, or dashes, one at least.
abbrev pub IsMark : Spells NumericDelimiter
IsMark cs Comma rest = cs ≡ comma ∷ rest
IsMark cs Ampersand rest = cs ≡ ampersand ∷ rest
IsMark cs Hyphen rest = (t : List ℕ) × IsOf is_dash cs t rest × (1 ≤ length t)

-- A separator is such a mark with spaces round it.
abbrev pub IsSeparator : Spells NumericDelimiter
IsSeparator cs d rest = (a : List ℕ) × (b : List ℕ) × AreSpaces cs a × IsMark a d b × AreSpaces b rest

-- Numbers, with a separator after each but the last.
abbrev pub AreNumbers : Spells Numbers
AreNumbers cs [] rest = ⊥
AreNumbers cs ((z, None) ∷ ns) rest = IsNumber cs z rest × (ns ≡ [])
AreNumbers cs ((z, Some d) ∷ ns) rest = (a : List ℕ) × (b : List ℕ) × IsNumber cs z a × IsSeparator a d b × AreNumbers b ns rest

-- One number alone is no set.
abbrev pub AreOf : Numbers → Value → Type 0
AreOf ns (Number z) = ns ≡ (z, None) ∷ []
AreOf ns (Set ms) = (ns ≡ ms) × (2 ≤ length ms)

-- The whole text is letters, numbers and letters.
abbrev pub IsNumeral : List ℕ → Numeral → Type 0
IsNumeral cs n = (a : List ℕ) × (b : List ℕ) × (ns : Numbers) × AreLetters cs n.prefix a × AreNumbers a ns b × AreOf ns n.value × AreLetters b n.suffix []
