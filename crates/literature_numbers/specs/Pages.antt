-- Page ranges: the parts that a text spells, how they are written, and which of them are read back.
use Rattle.std.specs.Prelude.{◌≡◌, ℕ, Bool, true, false, ◌||◌, if◌then◌else◌, List, [], ◌∷◌, ◌++◌, Option, Some, None, Result, Ok, Err, ℤ}
use Rattle.std.specs.List.{flat_map}
use Rattle.laws.specs.Results.{◌>>=◌}
use Rattle.texts.specs.Reading.{end_at}
use Rattle.literature_numbers.specs.Numerics.{Numbers, Numeral, plain, numbers_at}
use Rattle.literature_numbers.specs.NumericText.{delimiter_text, numeral_text, is_plural, IsCount}
use Rattle.literature_numbers.specs.declared.separator.NumericDelimiter.{NumericDelimiter}
use Rattle.literature_numbers.specs.declared.separator.NumericDelimiter.TheVariants.{Comma, Ampersand, Hyphen}
use Rattle.texts.specs.declared.reader.Unreadable.{Unreadable}
use Rattle.texts.specs.declared.reader.Unreadable.TheVariants.{NotThere}

-- a separator, a page, or a range of pages
pub data Part : Type 0 where
  AmpersandPart : Part
  CommaPart : Part
  SinglePage : Numeral → Part
  Range : Numeral → Numeral → Part

-- a page, or the range that a first page before it opened
abbrev pub page : Option ℤ → ℤ → Part
page None n = SinglePage (plain n)
page (Some first) n = Range (plain first) (plain n)

-- a page or range whose last number has this separator after it
abbrev pub closed : Option ℤ → ℤ × Option NumericDelimiter → List Part
closed first (n, None) = page first n ∷ []
closed first (n, Some Comma) = page first n ∷ CommaPart ∷ []
closed first (n, Some Ampersand) = page first n ∷ AmpersandPart ∷ []
closed first (n, Some Hyphen) = page first n ∷ []

-- dashes stand after the number
abbrev pub is_hyphen : Option NumericDelimiter → Bool
is_hyphen None = false
is_hyphen (Some Comma) = false
is_hyphen (Some Ampersand) = false
is_hyphen (Some Hyphen) = true

-- dashes open a range, which no further dashes may follow
abbrev pub opened : Option ℤ → ℤ → Result (Option ℤ) Unreadable
opened None n = Ok (Some n)
opened (Some first) n = Err NotThere

-- no range is open
abbrev pub all_closed : Option ℤ → Result (List Part) Unreadable
all_closed None = Ok []
all_closed (Some first) = Err NotThere

-- numbers one after the other as pages and ranges, where a first page may have opened a range
abbrev pub pages_from : Option ℤ → Numbers → Result (List Part) Unreadable
pages_from first [] = all_closed first
pages_from first (n ∷ ns) = if is_hyphen n.1 then (opened first n.0 >>= λ f. pages_from f ns) else (pages_from None ns >>= λ ps. Ok (closed first n ++ ps))

-- numbers up to the end, as pages and ranges
unfoldable pub pages_of : List ℕ → Result (List Part) Unreadable
pages_of cs = do
  numbers ← numbers_at cs
  rest ← end_at numbers.1
  pages_from None numbers.0

-- a range is written with an en dash
abbrev pub part_text : Part → List ℕ
part_text AmpersandPart = delimiter_text Ampersand
part_text CommaPart = delimiter_text Comma
part_text (SinglePage n) = numeral_text n
part_text (Range m n) = numeral_text m ++ (delimiter_text Hyphen ++ numeral_text n)

-- all parts, one after the other
abbrev pub pages_text : List Part → List ℕ
pages_text ps = flat_map part_text ps

-- more than one number: a range, or two pages, of which one may have come, or a page of several numbers
abbrev pub has_more : Bool → List Part → Bool
has_more viewed [] = false
has_more viewed (AmpersandPart ∷ ps) = has_more viewed ps
has_more viewed (CommaPart ∷ ps) = has_more viewed ps
has_more viewed (SinglePage n ∷ ps) = viewed || (is_plural n.value || has_more true ps)
has_more viewed (Range m n ∷ ps) = true

-- the first number that stands there
abbrev pub first_number : List Part → Option Numeral
first_number [] = None
first_number (AmpersandPart ∷ ps) = first_number ps
first_number (CommaPart ∷ ps) = first_number ps
first_number (SinglePage n ∷ ps) = Some n
first_number (Range m n ∷ ps) = Some m

-- counts without letters
abbrev pub IsPlainCount : Numeral → Type 0
IsPlainCount n = (z : ℤ) × IsCount z × (n ≡ plain z)

-- a page or range of counts
abbrev pub IsPage : Part → Type 0
IsPage AmpersandPart = ⊥
IsPage CommaPart = ⊥
IsPage (SinglePage n) = IsPlainCount n
IsPage (Range m n) = IsPlainCount m × IsPlainCount n

-- a comma or an ampersand
abbrev pub IsSeparator : Part → Type 0
IsSeparator AmpersandPart = Unit {0}
IsSeparator CommaPart = Unit {0}
IsSeparator (SinglePage n) = ⊥
IsSeparator (Range m n) = ⊥

-- pages and ranges of counts, with one separator between any two
abbrev pub AreReadable : List Part → Type 0
AreReadable [] = ⊥
AreReadable (p ∷ []) = IsPage p
AreReadable (p ∷ s ∷ ps) = IsPage p × IsSeparator s × AreReadable ps
