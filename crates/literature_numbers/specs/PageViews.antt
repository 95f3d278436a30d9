-- Page ranges of the code as callers see them.
use Rattle.std.specs.Prelude.{◌≡◌, List, map, Option, Some, None, Result, Ok, Err, ℤ}
use Rattle.literature_numbers.specs.Pages.{Part, AmpersandPart, CommaPart, SinglePage, Range}
use Rattle.literature_numbers.specs.Views.{numeral_view}
use Rattle.literature_numbers.specs.declared.numeric.NumericError.{NumericError}
use Rattle.literature_numbers.specs.declared.numeric.NumericError.TheVariants as numeric_errors
use Rattle.literature_numbers.specs.declared.page_ranges.PageRanges.{PageRanges}
use Rattle.literature_numbers.specs.declared.page_ranges.PageRangesPart.{PageRangesPart}
use Rattle.literature_numbers.specs.declared.page_ranges.PageRangesPart.TheVariants as parts
use Rattle.literature_numbers.specs.declared.page_ranges.PageRangesError.{PageRangesError}
use Rattle.literature_numbers.specs.declared.page_ranges.PageRangesError.TheVariants as errors
use Rattle.texts.specs.declared.reader.Unreadable.{Unreadable}
use Rattle.texts.specs.declared.reader.Unreadable.TheVariants.{NotThere}

-- a part, its numbers viewed by value
abbrev pub page_part_view : PageRangesPart → Part
page_part_view parts.Ampersand = AmpersandPart
page_part_view parts.Comma = CommaPart
page_part_view (parts.SinglePage n) = SinglePage (numeral_view n)
page_part_view (parts.Range m n) = Range (numeral_view m) (numeral_view n)

-- the parts in order
abbrev pub pages_view : PageRanges → List Part
pages_view p = map page_part_view p.ranges.items

-- the refusal of pages for that of numbers
abbrev pub pages_refusal : NumericError → PageRangesError
pages_refusal numeric_errors.Memory = errors.Memory
pages_refusal numeric_errors.Malformed = errors.Malformed

-- the refusal that an error is; out of memory is none
abbrev pub refusal_of_pages : PageRangesError → Option Unreadable
refusal_of_pages errors.Memory = None
refusal_of_pages errors.Malformed = Some NotThere

-- The number that opened a range, or the refusal, is what is wanted.
abbrev pub OpensRange : Result ℤ Unreadable → Result (Option ℤ) Unreadable → Type 0
OpensRange (Ok n) wanted = wanted ≡ Ok (Some n)
OpensRange (Err e) wanted = wanted ≡ Err e
