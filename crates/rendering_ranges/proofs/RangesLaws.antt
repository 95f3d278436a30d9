-- Without a format pages are printed as they are, and in each format they are printed where they are without.
use Rattle.std.proofs.Common.{◌≡◌, ℕ, true, ◌||◌, List, [], ◌∷◌, ◌++◌, Option, Some, None, refl, sym, ◌∙◌}
use Rattle.laws.specs.Characters.{en_dash}
use Rattle.laws.specs.Text.{is_filled}
use Rattle.literature_numbers.specs.NumericText.{numeral_text}
use Rattle.literature_numbers.specs.Pages.{Part, AmpersandPart, CommaPart, SinglePage, Range, part_text, pages_text}
use Rattle.rendering_ranges.specs.Laws.{FormatsPrintWhatIsThere, PagesWithoutFormatAreAsTheyAre, TextsWithoutFormatAreDashed}
use Rattle.rendering_ranges.specs.Ranges.{pages_in, part_in, second_text}
use Rattle.rendering_taxonomy.specs.declared.page.PageRangeFormat.{PageRangeFormat}

pub without_format : PagesWithoutFormatAreAsTheyAre
without_format parts = refl

pub dashed_without_format : TextsWithoutFormatAreDashed
dashed_without_format cs = refl

filled-append : (xs ys : List ℕ) → is_filled (xs ++ ys) ≡ (is_filled xs || is_filled ys)
filled-append [] ys = refl
filled-append (x ∷ xs) ys = refl

filled_with : (xs ys : List ℕ) (y : ℕ) → is_filled (xs ++ y ∷ ys) ≡ true
filled_with [] ys y = refl
filled_with (x ∷ xs) ys y = refl

filled_part : (format : Option PageRangeFormat) (part : Part) → is_filled (part_in format part) ≡ is_filled (part_text part)
filled_part None part = refl
filled_part (Some format) AmpersandPart = refl
filled_part (Some format) CommaPart = refl
filled_part (Some format) (SinglePage n) = refl
filled_part (Some format) (Range m n) =
    filled_with (numeral_text m) (second_text format m n) en_dash ∙ sym (filled_with (numeral_text m) (numeral_text n) en_dash)

-- pages have a text in a format where they have one without
pub filled : FormatsPrintWhatIsThere
filled format [] = refl
filled format (p ∷ ps) =
    filled-append (part_in format p) (pages_in format ps)
    ∙ (λ i. filled_part format p i || filled format ps i)
    ∙ sym (filled-append (part_text p) (pages_text ps))
