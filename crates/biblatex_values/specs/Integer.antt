-- Integers: which texts are read, and how they are written.
use Rattle.std.specs.Prelude.{ℕ, ◌^◌, Bool, ◌==◌, ◌&&◌, nat_lt, nat_le, List, [], ◌∷◌, length, if◌then◌else◌, Result, Ok, Err, ℤ, pos, neg_ℤ}
use Rattle.std.specs.Fmt.{signed_decimal}
use Rattle.std.specs.Str.{all_ascii_digits}
use Rattle.std.specs.Str.Parse.{digits_value}
use Rattle.laws.specs.Characters.{hyphen}
use Rattle.laws.specs.Text.{text}
use Rattle.biblatex_content.specs.declared.chunk.Kind.TheVariants.{Normal}
use Rattle.biblatex_content.specs.Styled.{Member, letters, plain}
use Rattle.biblatex_dates.specs.declared.error.TypeErrorKind.{TypeErrorKind}
use Rattle.biblatex_dates.specs.declared.error.TypeErrorKind.TheVariants.{Unreadable}

-- one ASCII digit or more, and nothing else
abbrev pub is_numeral : List ℕ → Bool
is_numeral ds = all_ascii_digits ds && nat_lt 0 (length ds)

-- a number from 0 to 2^63 - 1
abbrev pub natural_of : List ℕ → Result ℤ TypeErrorKind
natural_of ds = if is_numeral ds && nat_lt (digits_value 10 ds) (2 ^ 63) then Ok (pos (digits_value 10 ds)) else Err Unreadable

-- the negative of a number from 0 to 2^63
abbrev pub negative_of : List ℕ → Result ℤ TypeErrorKind
negative_of ds = if is_numeral ds && nat_le (digits_value 10 ds) (2 ^ 63) then Ok (neg_ℤ (pos (digits_value 10 ds))) else Err Unreadable

-- the integer that bytes spell: digits, negative after a hyphen
abbrev pub integer_of : List ℕ → Result ℤ TypeErrorKind
integer_of [] = Err Unreadable
integer_of (b ∷ bs) = if b == hyphen then negative_of bs else natural_of (b ∷ bs)

abbrev pub reads_integer : List Member → Result ℤ TypeErrorKind
reads_integer ms = integer_of (text (plain ms))

-- the digits, after a hyphen where the integer is negative
abbrev pub writes_integer : ℤ → List Member
writes_integer z = letters Normal (signed_decimal z)
