-- How many digits each format prints of the second number of a range, of the digits of both.
use Rattle.std.specs.Prelude.{ℕ, ◌%◌, ◌==◌, ◌||◌, Bool, false, max, nat_lt, List, length, if◌then◌else◌}
use Rattle.rendering_ranges.specs.Digits.{changing, three_of_four}
use Rattle.rendering_taxonomy.specs.declared.page.PageRangeFormat.{PageRangeFormat}
use Rattle.rendering_taxonomy.specs.declared.page.PageRangeFormat.TheVariants as formats

-- by the Chicago Manual: all digits after a first number below a hundred, and after a multiple of a hundred; those that
-- change after one that ends in 01 to 09; else all where it is so wanted, or those that change, and two at least
abbrev pub chicago : Bool → ℕ → List ℕ → List ℕ → ℕ
chicago all first ds es =
    if nat_lt first 100 || first % 100 == 0 then length es
    else if nat_lt (first % 100) 10 then max (changing ds es) 1
    else if all then length es
    else max (changing ds es) 2

-- the fifteenth edition wants all digits where three of four differ
abbrev pub printed : PageRangeFormat → ℕ → List ℕ → List ℕ → ℕ
printed formats.Expanded first ds es = length es
printed formats.Minimal first ds es = max (changing ds es) 1
printed formats.MinimalTwo first ds es = max (changing ds es) 2
printed formats.Chicago15 first ds es = chicago (three_of_four ds es) first ds es
printed formats.Chicago16 first ds es = chicago false first ds es
