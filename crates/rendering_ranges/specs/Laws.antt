-- Laws of what is printed of pages in a format.
use Rattle.std.specs.Prelude.{◌≡◌, ℕ, ◌^◌, ◌<◌, ◌≤◌, List, Option, None}
use Rattle.std.specs.Fmt.{decimal}
use Rattle.laws.specs.Text.{is_filled}
use Rattle.literature_numbers.specs.Pages.{Part, pages_text}
use Rattle.rendering_ranges.specs.Counts.{fronted, lent, second_count}
use Rattle.rendering_ranges.specs.Dashes.{dashed}
use Rattle.rendering_ranges.specs.Lettered.{lettered}
use Rattle.rendering_ranges.specs.Ranges.{pages_in}
use Rattle.rendering_taxonomy.specs.declared.page.PageRangeFormat.{PageRangeFormat}

-- What is printed of a second number that does not come before the first one means the same page: with the front of the first
-- one before them its digits are whole.
abbrev pub SecondNumbersMeanTheirPage : Type 0
SecondNumbersMeanTheirPage =
    (format : PageRangeFormat) (first second : ℕ)
    → first < 2 ^ 32 → second < 2 ^ 32 → first ≤ lent first second
    → fronted (decimal first) (second_count format first second) ≡ decimal (lent first second)

-- Without a format pages are printed as they are.
abbrev pub PagesWithoutFormatAreAsTheyAre : Type 0
PagesWithoutFormatAreAsTheyAre = (parts : List Part) → pages_in None parts ≡ pages_text parts

-- Pages have a text in a format where they have one without.
abbrev pub FormatsPrintWhatIsThere : Type 0
FormatsPrintWhatIsThere =
    (format : Option PageRangeFormat) (parts : List Part)
    → is_filled (pages_in format parts) ≡ is_filled (pages_text parts)

-- Without a format a text that stands instead of pages has en dashes in its ranges, and is else as it is.
abbrev pub TextsWithoutFormatAreDashed : Type 0
TextsWithoutFormatAreDashed = (cs : List ℕ) → lettered None cs ≡ dashed cs
