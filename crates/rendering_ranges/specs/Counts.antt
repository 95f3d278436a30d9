-- What is printed of the second of two counts.
use Rattle.std.specs.Prelude.{ℕ, ◌+◌, ◌-◌, ◌%◌, ◌^◌, nat_lt, List, ◌++◌, length, take, if◌then◌else◌}
use Rattle.std.specs.Fmt.{decimal}
use Rattle.rendering_ranges.specs.Digits.{last_digits}
use Rattle.rendering_ranges.specs.Formats.{printed}
use Rattle.rendering_taxonomy.specs.declared.page.PageRangeFormat.{PageRangeFormat}

-- the second number in place of as many last digits of the first one: `321-28` ends with 328
abbrev pub lent : ℕ → ℕ → ℕ
lent first second = first - first % 10 ^ length (decimal second) + second

-- the digits of the second number that are printed, of those of both
abbrev pub shortened : PageRangeFormat → ℕ → List ℕ → List ℕ → List ℕ
shortened format first ds es = last_digits (printed format first ds es) es

-- what is printed of the second count: as it is where it comes before the first one even so
abbrev pub second_count : PageRangeFormat → ℕ → ℕ → List ℕ
second_count format first second =
    if nat_lt (lent first second) first then decimal second
    else shortened format first (decimal first) (decimal (lent first second))

-- what a reader makes of the digits of a second number: as many of the first one stand before them as they are fewer
abbrev pub fronted : List ℕ → List ℕ → List ℕ
fronted ds printed = take (length ds - length printed) ds ++ printed
