-- Values are equal exactly where the view of them is one.
use Rattle.std.proofs.Common.{◌≡◌, ℕ, Bool, true, false, ◌&&◌, [], Option, ℤ, pos, int_eq, string_eq, refl, sym, ap, rules, arith}
use Rattle.std.specs.Bool.{Decides}
use denote.Enum.Bare.{same_true, true_same}
use Rattle.std.specs.Option.{option_eq}
use Rattle.std.proofs.lemmas.Bool.Decides.{Decides-and, Decides-int_eq}
use Rattle.std.proofs.lemmas.Bool.{true≢false}
use Rattle.std.proofs.lemmas.Slice.Eq.{slice_eq-Decides}
use Rattle.std.specs.Cmp.Lexicographic.{pointwise}
use Rattle.laws.specs.Equality.{Shows}
use Rattle.laws.proofs.Equality.{Decides-moved, Decides-never, Shows-strings, Shows-options, Shows-options_themselves, Shows-lists, Shows-pairs}
use Rattle.literature_numbers.specs.Numerics.{Value, Number, Set, Numbers, Numeral, plain}
use Rattle.literature_numbers.specs.Views.{numeric_value_view, numeral_view}
use Rattle.laws.specs.Text.{characters}
use Rattle.literature_numbers.specs.declared.numeric.NumericValue.TheVariants as values
use Rattle.literature_numbers.specs.declared.separator.NumericDelimiter.{NumericDelimiter}
use Rattle.literature_numbers.specs.contracts.separator.NumericDelimiter.{the_type}
use Rattle.literature_numbers.specs.Pages.{Part, AmpersandPart, CommaPart, SinglePage, Range}
use Rattle.literature_numbers.specs.PageViews.{page_part_view, pages_view}
use Rattle.literature_numbers.specs.declared.page_ranges.PageRangesPart.TheVariants as parts
use Rattle.literature_numbers.specs.contracts.page_ranges.PageRangesPartPartialEq.TheImpl as page_ranges_part
use Rattle.literature_numbers.specs.contracts.page_ranges.PageRangesPartialEq.TheImpl as page_ranges
use Rattle.literature_numbers.specs.contracts.numeric.NumericPartialEq.TheImpl as numeric
use Rattle.literature_numbers.specs.contracts.numeric.NumericValuePartialEq.TheImpl as numeric_value
use Rattle.literature_numbers.specs.contracts.separator.NumericDelimiterPartialEq.TheImpl as delimiter

pub Shows-NumericDelimiter : Shows delimiter.ghosts.eq (λ d. d)
Shows-NumericDelimiter d e = (same_true the_type (search rules) d e, true_same the_type d e)

-- the number, or 0
abbrev number_of : Value → ℤ
number_of (Number n) = n
number_of (Set ns) = pos 0

-- the numbers of a set, or none
abbrev numbers_of : Value → Numbers
numbers_of (Number n) = []
numbers_of (Set ns) = ns

-- a number is no set
abbrev is_set : Value → Bool
is_set (Number n) = false
is_set (Set ns) = true

same_linked : (m n : ℤ × Option NumericDelimiter) → Decides (int_eq m.0 n.0 && option_eq delimiter.ghosts.eq m.1 n.1) (m ≡ n)
same_linked m n =
    Shows-pairs int_eq (λ z. z) (option_eq delimiter.ghosts.eq) (λ o. o) Decides-int_eq (Shows-options_themselves delimiter.ghosts.eq Shows-NumericDelimiter) m n

pub Shows-NumericValue : Shows numeric_value.ghosts.eq numeric_value_view
Shows-NumericValue (values.Number m) (values.Number n) = Decides-moved (int_eq m n) (Decides-int_eq m n) (ap Number) (ap number_of)
Shows-NumericValue (values.Number m) (values.Set w) = Decides-never (λ e. true≢false (sym (ap is_set e)))
Shows-NumericValue (values.Set v) (values.Number n) = Decides-never (λ e. true≢false (ap is_set e))
Shows-NumericValue (values.Set v) (values.Set w) =
    Decides-moved (pointwise (λ (m n : ℤ × Option NumericDelimiter). int_eq m.0 n.0 && option_eq delimiter.ghosts.eq m.1 n.1) v.items w.items)
    (slice_eq-Decides same_linked v.items w.items _ refl) (ap Set) (ap numbers_of)

pub Shows-Numeric : Shows numeric.ghosts.eq numeral_view
Shows-Numeric m n =
    let affixes = Decides-and (option_eq string_eq m.prefix n.prefix) (option_eq string_eq m.suffix n.suffix)
    (Shows-options string_eq characters Shows-strings m.prefix n.prefix) (Shows-options string_eq characters Shows-strings m.suffix n.suffix) in
    Decides-moved (numeric.ghosts.eq m n) (Decides-and (numeric_value.ghosts.eq m.value n.value) (option_eq string_eq m.prefix n.prefix && option_eq string_eq m.suffix n.suffix) (Shows-NumericValue m.value n.value) affixes)
    (λ p i. record { value = p.0 i; prefix = p.1.0 i; suffix = p.1.1 i }) (λ e. (ap (λ v. v.value) e, (ap (λ v. v.prefix) e, ap (λ v. v.suffix) e)))

-- the first number of a part, or 0
abbrev start_of : Part → Numeral
start_of AmpersandPart = plain (pos 0)
start_of CommaPart = plain (pos 0)
start_of (SinglePage n) = n
start_of (Range m n) = m

-- the last number of a part, or 0
abbrev end_of : Part → Numeral
end_of AmpersandPart = plain (pos 0)
end_of CommaPart = plain (pos 0)
end_of (SinglePage n) = n
end_of (Range m n) = n

-- the kinds of parts in order
abbrev kind_of : Part → ℕ
kind_of AmpersandPart = 0
kind_of CommaPart = 1
kind_of (SinglePage n) = 2
kind_of (Range m n) = 3

pub Shows-PageRangesPart : Shows page_ranges_part.ghosts.eq page_part_view
Shows-PageRangesPart parts.Ampersand parts.Ampersand = (λ h. refl, λ e. refl)
Shows-PageRangesPart parts.Comma parts.Comma = (λ h. refl, λ e. refl)
Shows-PageRangesPart (parts.SinglePage m) (parts.SinglePage n) =
    Decides-moved (numeric.ghosts.eq m n) (Shows-Numeric m n) (ap SinglePage) (ap start_of)
Shows-PageRangesPart (parts.Range k l) (parts.Range m n) =
    Decides-moved (numeric.ghosts.eq k m && numeric.ghosts.eq l n) (Decides-and (numeric.ghosts.eq k m) (numeric.ghosts.eq l n) (Shows-Numeric k m) (Shows-Numeric l n))
    (λ p i. Range (p.0 i) (p.1 i)) (λ e. (ap start_of e, ap end_of e))
Shows-PageRangesPart p q = Decides-never (λ e. omega (arith, ap kind_of e))

pub Shows-PageRanges : Shows page_ranges.ghosts.eq pages_view
Shows-PageRanges p q = Shows-lists page_ranges_part.ghosts.eq page_part_view Shows-PageRangesPart p.ranges.items q.ranges.items
