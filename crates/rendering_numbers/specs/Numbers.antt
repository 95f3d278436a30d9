-- Numbers as texts.
use Rattle.std.specs.Prelude.{ℕ, ◌/◌, ◌%◌, ◌==◌, ◌&&◌, nat_le, nat_lt, List, [], ◌∷◌, ◌++◌, map, replicate, if◌then◌else◌, slice_index_or, Option, Some, None, ℤ, pos, unsigned_abs}
use Rattle.std.specs.List.{flat_map}
use Rattle.std.specs.Map.{lookup}
use Rattle.std.specs.Fmt.{decimal, signed_decimal}
use Rattle.laws.specs.Characters.{lower_c, lower_d, lower_i, lower_l, lower_m, lower_v, lower_x}
use Rattle.literature_numbers.specs.Numerics.{Value, Number, Set, Numeral}
use Rattle.literature_numbers.specs.NumericText.{separator_text, affix_text}
use Rattle.literature_values.specs.TypedViews.{ValueOrText, Value as as_value, Text as as_text}
use Rattle.literature_numbers.specs.declared.separator.NumericDelimiter.{NumericDelimiter}
use Rattle.rendering_locale.specs.Locales.{OrdinalEnding, Ordinals}
use Rattle.rendering_taxonomy.specs.declared.number.NumberForm.{NumberForm}
use Rattle.rendering_taxonomy.specs.declared.number.NumberForm.TheVariants as forms

-- an ending under its number
abbrev pub numbered : OrdinalEnding → ℕ × List ℕ
numbered e = (e.number, e.ending)

-- the ending after one of them, or that of all others
abbrev pub or_else : Option (List ℕ) → List ℕ → List ℕ
or_else None other = other
or_else (Some ending) other = ending

-- the first ending under a number
abbrev pub ending_of : ℕ → Ordinals → Option (List ℕ)
ending_of n o = lookup (λ k. k == n) (map numbered o.endings)

-- the ending that the last two digits have, where they are ten or more
abbrev pub ending_of_two : ℕ → Ordinals → Option (List ℕ)
ending_of_two n o = if nat_le 10 n then ending_of n o else None

-- the ending of a number: that of its last two digits, else of its last one, else of all others
abbrev pub ordinal_ending : Ordinals → ℕ → List ℕ
ordinal_ending o n = or_else (ending_of_two (n % 100) o) (or_else (ending_of (n % 10) o) o.default)

-- a number with its ending
abbrev pub ordinal_text : Ordinals → ℤ → List ℕ
ordinal_text o n = signed_decimal n ++ ordinal_ending o (unsigned_abs n)

-- the texts of the digits from 0 to 9, of the letters for one, five and ten
abbrev pub roman_digits : ℕ → ℕ → ℕ → List (List ℕ)
roman_digits one five ten =
    [] ∷ (one ∷ []) ∷ (one ∷ one ∷ []) ∷ (one ∷ one ∷ one ∷ []) ∷ (one ∷ five ∷ []) ∷ (five ∷ [])
    ∷ (five ∷ one ∷ []) ∷ (five ∷ one ∷ one ∷ []) ∷ (five ∷ one ∷ one ∷ one ∷ []) ∷ (one ∷ ten ∷ []) ∷ []

-- the letters are i v x, x l c, c d m
abbrev pub roman_text : ℕ → List ℕ
roman_text n =
    replicate (n / 1000) lower_m
    ++ slice_index_or (roman_digits lower_c lower_d lower_m) ((n / 100) % 10) []
    ++ slice_index_or (roman_digits lower_x lower_l lower_c) ((n / 10) % 10) []
    ++ slice_index_or (roman_digits lower_i lower_v lower_x) (n % 10) []

-- numbers from 1 to 3999 have a roman text, others stand in digits
abbrev pub roman_or_digits : ℤ → List ℕ
roman_or_digits (pos n) = if nat_lt 0 n && nat_lt n 4000 then roman_text n else decimal n
roman_or_digits z = signed_decimal z

-- a number by its form
abbrev pub number_text : Ordinals → NumberForm → ℤ → List ℕ
number_text o forms.Numeric n = signed_decimal n
number_text o forms.Ordinal n = ordinal_text o n
number_text o forms.Roman n = roman_or_digits n

-- a number of a set, and its separator
abbrev pub linked_by : Ordinals → NumberForm → ℤ × Option NumericDelimiter → List ℕ
linked_by o form n = number_text o form n.0 ++ separator_text n.1

-- one number, or each of a set by itself with its separator
abbrev pub value_text : Ordinals → NumberForm → Value → List ℕ
value_text o form (Number n) = number_text o form n
value_text o form (Set ns) = flat_map (linked_by o form) ns

-- the letters before, the value, the letters after
abbrev pub numeral_by : Ordinals → NumberForm → Numeral → List ℕ
numeral_by o form n = affix_text n.prefix ++ value_text o form n.value ++ affix_text n.suffix

-- a text instead of a number is as it is
abbrev pub numeral_or_text : Ordinals → NumberForm → ValueOrText Numeral → List ℕ
numeral_or_text o form (as_value n) = numeral_by o form n
numeral_or_text o form (as_text cs) = cs
