-- Pages and ranges of pages as they are written, as a grammar by cases.
use Rattle.std.specs.Prelude.{◌≡◌, ℕ, List, [], ◌∷◌, None, ℤ}
use Rattle.literature_numbers.specs.Numerics.{Number, Numeral}
use Rattle.literature_numbers.specs.Pages.{Part, AmpersandPart, CommaPart, SinglePage, Range}
use Rattle.literature_numbers.specs.declared.separator.NumericDelimiter.TheVariants.{Comma, Ampersand, Hyphen}
use Rattle.literature_grammar.specs.Numbers.{Spells, IsNumber, IsSeparator}

-- A page is a number, without letters.
abbrev pub IsPage : Spells Numeral
IsPage cs n rest = (z : ℤ) × IsNumber cs z rest × (n ≡ record { value = Number z; prefix = None; suffix = None })

-- A page, or two with dashes between.
abbrev pub IsRange : Spells Part
IsRange cs AmpersandPart rest = ⊥
IsRange cs CommaPart rest = ⊥
IsRange cs (SinglePage n) rest = IsPage cs n rest
IsRange cs (Range m n) rest = (a : List ℕ) × (b : List ℕ) × IsPage cs m a × IsSeparator a Hyphen b × IsPage b n rest

-- A comma or an ampersand between two parts.
abbrev pub IsBetween : Spells Part
IsBetween cs AmpersandPart rest = IsSeparator cs Ampersand rest
IsBetween cs CommaPart rest = IsSeparator cs Comma rest
IsBetween cs (SinglePage n) rest = ⊥
IsBetween cs (Range m n) rest = ⊥

-- The whole text is pages and ranges, with a comma or an ampersand between each two.
abbrev pub ArePages : List ℕ → List Part → Type 0
ArePages cs [] = ⊥
ArePages cs (p ∷ []) = IsRange cs p []
ArePages cs (p ∷ s ∷ ps) = (a : List ℕ) × (b : List ℕ) × IsRange cs p a × IsBetween a s b × ArePages b ps
