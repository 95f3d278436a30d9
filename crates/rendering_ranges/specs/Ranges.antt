-- What is printed of pages and ranges of pages in a format.
use Rattle.std.specs.Prelude.{ℕ, List, ◌++◌, Option, Some, None, pos, negsuc}
use Rattle.std.specs.List.{flat_map}
use Rattle.literature_numbers.specs.Numerics.{Value, Number, Set, Numeral}
use Rattle.literature_numbers.specs.NumericText.{delimiter_text, numeral_text}
use Rattle.literature_numbers.specs.Pages.{Part, Range, part_text}
use Rattle.literature_numbers.specs.declared.separator.NumericDelimiter.TheVariants.{Hyphen}
use Rattle.rendering_ranges.specs.Counts.{second_count}
use Rattle.rendering_taxonomy.specs.declared.page.PageRangeFormat.{PageRangeFormat}

-- the count that a value is: one number, not below nought
abbrev pub count_in : Value → Option ℕ
count_in (Number (pos n)) = Some n
count_in (Number (negsuc n)) = None
count_in (Set ns) = None

-- where letters stand before or after a value it is no count
abbrev pub plain_count : Option (List ℕ) → Option (List ℕ) → Value → Option ℕ
plain_count None None value = count_in value
plain_count prefix suffix value = None

-- the count that a number is, where it is one
abbrev pub count_of : Numeral → Option ℕ
count_of n = plain_count n.prefix n.suffix n.value

-- the second of two counts in a format, or else another text
abbrev pub counted : PageRangeFormat → Option ℕ → Option ℕ → List ℕ → List ℕ
counted format (Some first) (Some second) other = second_count format first second
counted format first second other = other

-- the second number of a range in a format: where both are counts it may be shortened, else it is as it is
abbrev pub second_text : PageRangeFormat → Numeral → Numeral → List ℕ
second_text format first second =
    counted format (count_of first) (count_of second) (numeral_text second)

-- a part of pages: a range has its second number in the format, where there is one
abbrev pub part_in : Option PageRangeFormat → Part → List ℕ
part_in None part = part_text part
part_in (Some format) (Range first second) =
    numeral_text first ++ (delimiter_text Hyphen ++ second_text format first second)
part_in (Some format) part = part_text part

-- all parts, one after the other
abbrev pub pages_in : Option PageRangeFormat → List Part → List ℕ
pages_in format parts = flat_map (part_in format) parts
