-- Pages and lists of them as they are written, as a grammar by cases. Each relation takes a text, what is spelled from its first character
-- on, and the text that follows. Characters are numbers.
use Rattle.std.specs.Prelude.{◌≡◌, ℕ, ◌≤◌, ◌<◌, ◌^◌, Bool, true, ◌==◌, ◌||◌, ◌⊎◌, List, [], ◌∷◌, ◌++◌, length}
use Rattle.std.specs.Char.{is_ascii_digit}
use Rattle.std.specs.Str.Parse.{digits_value}
use Rattle.std.specs.declared.ops.Range.{Range}
use Rattle.laws.specs.Characters.{space, ampersand, comma, hyphen, en_dash, em_dash}
use Rattle.laws.specs.Runs.{AllPassTest}

-- A page is ASCII digits, one at least, that spell at most 2147483647.
abbrev pub IsPage : List ℕ → ℕ → List ℕ → Type 0
IsPage cs n rest = (t : List ℕ) × (cs ≡ t ++ rest) × AllPassTest is_ascii_digit t × (1 ≤ length t) × (digits_value 10 t < 2 ^ 31) × (n ≡ digits_value 10 t)

-- a space
abbrev pub is_space : ℕ → Bool
is_space c = c == space

-- a hyphen, an en dash or an em dash
abbrev pub is_dash : ℕ → Bool
is_dash c = c == hyphen || c == en_dash || c == em_dash

-- Characters that pass a test, perhaps none.
abbrev pub ArePassing : (ℕ → Bool) → List ℕ → List ℕ → Type 0
ArePassing test cs rest = (t : List ℕ) × (cs ≡ t ++ rest) × AllPassTest test t

-- Dashes, one at least, with spaces round them.
abbrev pub AreDashes : List ℕ → List ℕ → Type 0
AreDashes cs rest = (a : List ℕ) × (b : List ℕ) × (c : ℕ) × ArePassing is_space cs (c ∷ a) × (is_dash c ≡ true) × ArePassing is_dash a b × ArePassing is_space b rest

-- A comma or an ampersand with spaces round it.
abbrev pub IsComma : List ℕ → List ℕ → Type 0
IsComma cs rest = (a : List ℕ) × (c : ℕ) × ArePassing is_space cs (c ∷ a) × ((c ≡ comma) ⊎ (c ≡ ampersand)) × ArePassing is_space a rest

-- A page, which is the range from it to itself, or two with dashes between.
abbrev pub IsRange : List ℕ → Range ℕ → List ℕ → Type 0
IsRange cs r rest = (IsPage cs r.start rest × (r.end ≡ r.start)) ⊎ ((a : List ℕ) × (b : List ℕ) × IsPage cs r.start a × AreDashes a b × IsPage b r.end rest)

-- The whole text is a page or a range.
abbrev pub IsOneRange : List ℕ → Range ℕ → Type 0
IsOneRange cs r = IsRange cs r []

-- The whole text is pages and ranges, with a comma or an ampersand between each two.
abbrev pub AreRanges : List ℕ → List (Range ℕ) → Type 0
AreRanges cs [] = ⊥
AreRanges cs (r ∷ []) = IsRange cs r []
AreRanges cs (r ∷ s ∷ rs) = (a : List ℕ) × (b : List ℕ) × IsRange cs r a × IsComma a b × AreRanges b (s ∷ rs)
