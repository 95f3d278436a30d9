-- How numbers are written, and which of them are read back from what was written.
use Rattle.std.specs.Prelude.{◌≡◌, ℕ, ◌<◌, ◌^◌, Bool, false, nat_lt, List, [], ◌∷◌, ◌++◌, length, Option, Some, None, IsSome, ℤ, pos}
use Rattle.std.specs.List.{flat_map}
use Rattle.std.specs.Fmt.{signed_decimal}
use Rattle.laws.specs.Characters.{space, ampersand, comma, en_dash}
use Rattle.laws.specs.Runs.{AllPassTest}
use Rattle.texts.specs.Character.{passes}
use Rattle.literature_numbers.specs.Numerics.{Numbers, Value, Number, Set, Numeral}
use Rattle.texts.specs.declared.character.Class.TheVariants.{Letter}
use Rattle.literature_numbers.specs.declared.separator.NumericDelimiter.{NumericDelimiter}
use Rattle.literature_numbers.specs.declared.separator.NumericDelimiter.TheVariants.{Comma, Ampersand, Hyphen}

-- a comma and a space, an ampersand between spaces, or an en dash
abbrev pub delimiter_text : NumericDelimiter → List ℕ
delimiter_text Comma = comma ∷ space ∷ []
delimiter_text Ampersand = space ∷ ampersand ∷ space ∷ []
delimiter_text Hyphen = en_dash ∷ []

-- the separator, where there is one
abbrev pub separator_text : Option NumericDelimiter → List ℕ
separator_text None = []
separator_text (Some d) = delimiter_text d

-- a number and the separator after it
abbrev pub linked_text : ℤ × Option NumericDelimiter → List ℕ
linked_text n = signed_decimal n.0 ++ separator_text n.1

-- one number, or each number of a set with its separator
abbrev pub value_text : Value → List ℕ
value_text (Number n) = signed_decimal n
value_text (Set ns) = flat_map linked_text ns

-- the letters, where there are any
abbrev pub affix_text : Option (List ℕ) → List ℕ
affix_text None = []
affix_text (Some cs) = cs

-- the letters before, the value, the letters after
abbrev pub numeral_text : Numeral → List ℕ
numeral_text n = affix_text n.prefix ++ (value_text n.value ++ affix_text n.suffix)

-- more than one number
abbrev pub is_plural : Value → Bool
is_plural (Number n) = false
is_plural (Set ns) = nat_lt 1 (length ns)

-- from 0 to 2147483647
abbrev pub IsCount : ℤ → Type 0
IsCount z = (n : ℕ) × (n < 2 ^ 31) × (z ≡ pos n)

-- counts, each but the last with a separator after it
abbrev pub AreLinked : Numbers → Type 0
AreLinked [] = ⊥
AreLinked (n ∷ []) = IsCount n.0 × (n.1 ≡ None)
AreLinked (n ∷ m ∷ ns) = IsCount n.0 × IsSome n.1 × AreLinked (m ∷ ns)

-- a count, or two or more
abbrev pub IsReadableValue : Value → Type 0
IsReadableValue (Number n) = IsCount n
IsReadableValue (Set ns) = (1 < length ns) × AreLinked ns

-- none, or one ASCII letter or more
abbrev pub IsAffix : Option (List ℕ) → Type 0
IsAffix None = Unit {0}
IsAffix (Some cs) = (0 < length cs) × AllPassTest (passes Letter) cs

-- counts, with letters before and after or none
pub record IsReadable (n : Numeral) : Type 0 where
  pub value : IsReadableValue n.value
  pub prefix : IsAffix n.prefix
  pub suffix : IsAffix n.suffix
