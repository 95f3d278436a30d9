-- Ranges of pages with letters before their numbers, as `E1425-E1431`.
use Rattle.std.specs.Prelude.{ℕ, ◌+◌, ◌-◌, ◌*◌, ◌^◌, ◌==◌, ◌&&◌, Bool, true, false, not, min, nat_le, nat_lt, List, [], ◌∷◌, ◌++◌, if◌then◌else◌, Option, Some, None}
use Rattle.std.specs.Char.{is_ascii_digit, is_whitespace}
use Rattle.std.specs.List.{list_all}
use Rattle.laws.specs.Characters.{digit_zero, en_dash}
use Rattle.laws.specs.Runs.{after, prefix_of}
use Rattle.laws.specs.Text.{is_filled}
use Rattle.rendering_ranges.specs.Counts.{shortened}
use Rattle.rendering_ranges.specs.Dashes.{dashed, is_dash, is_undivided}
use Rattle.rendering_taxonomy.specs.declared.page.PageRangeFormat.{PageRangeFormat}
use Rattle.rendering_taxonomy.specs.declared.page.PageRangeFormat.TheVariants as formats

-- a character of a side of a range: no dash, comma, ampersand or white space
abbrev pub is_of_side : ℕ → Bool
is_of_side c = is_undivided c && not (is_whitespace c)

abbrev pub are_digits : List ℕ → Bool
are_digits cs = list_all is_ascii_digit cs

-- what follows the last character that is no digit, of a text of which a character and what follows it come next
abbrev pub later : ℕ → List ℕ → List ℕ → List ℕ
later c found cs = if is_ascii_digit c then found else cs

abbrev pub ending_after : List ℕ → List ℕ → List ℕ
ending_after found [] = found
ending_after found (c ∷ cs) = ending_after (later c found cs) cs

-- the digits that a text ends in
abbrev pub ending : List ℕ → List ℕ
ending cs = ending_after cs cs

-- whether two texts are the same but for digits that they end in
abbrev pub differ_in_digits : List ℕ → List ℕ → Bool
differ_in_digits [] ds = are_digits ds
differ_in_digits (c ∷ cs) [] = are_digits (c ∷ cs)
differ_in_digits (c ∷ cs) (d ∷ ds) =
    if c == d then differ_in_digits cs ds else are_digits (c ∷ cs) && are_digits (d ∷ ds)

-- a number with one more digit, or a thousand million where it has more than nine
abbrev pub with_digit : ℕ → ℕ → ℕ
with_digit n d = if nat_lt n (10 ^ 8) then n * 10 + min (d - digit_zero) 9 else 10 ^ 9

abbrev pub number_after : ℕ → List ℕ → ℕ
number_after n [] = n
number_after n (d ∷ ds) = number_after (with_digit n d) ds

-- the number that digits spell, or a thousand million where it has more than nine
abbrev pub number : List ℕ → ℕ
number ds = number_after 0 ds

-- whether two sides end in digits after the same letters
abbrev pub are_lettered : List ℕ → List ℕ → Bool
are_lettered cs ds =
    is_filled (ending cs) && (is_filled (ending ds) && (not (are_digits cs) && differ_in_digits cs ds))

-- whether the second of two numbers is not the less, and neither has more than nine digits
abbrev pub are_in_order : List ℕ → List ℕ → Bool
are_in_order ds es = nat_le (number ds) (number es) && nat_lt (number es) (10 ^ 9)

-- whether a format leaves out anything of a second number
abbrev pub shortens : PageRangeFormat → Bool
shortens formats.Expanded = false
shortens format = true

-- whether the digits alone are printed of the second side of a range
abbrev pub is_shortened : PageRangeFormat → List ℕ → List ℕ → Bool
is_shortened format cs ds =
    shortens format && (are_lettered cs ds && are_in_order (ending cs) (ending ds))

-- the first side, and of the second one those of its digits that the format prints
abbrev pub shortened_range : PageRangeFormat → List ℕ → List ℕ → List ℕ
shortened_range format cs ds =
    cs ++ en_dash ∷ shortened format (number (ending cs)) (ending cs) (ending ds)

-- what follows a dash, where nothing of it stands in no side
abbrev pub second_side : List ℕ → Option (List ℕ)
second_side [] = None
second_side (c ∷ cs) = if is_dash c && list_all is_of_side cs then Some cs else None

-- a text of which a side comes first, and which may be a range of two
abbrev pub of_sides : PageRangeFormat → List ℕ → List ℕ → Option (List ℕ) → List ℕ
of_sides format text cs None = dashed text
of_sides format text cs (Some ds) =
    if is_shortened format cs ds then shortened_range format cs ds else dashed text

abbrev pub in_format : PageRangeFormat → List ℕ → List ℕ
in_format format cs =
    of_sides format cs (prefix_of is_of_side cs) (second_side (after is_of_side cs))

-- A text that stands instead of pages, in a format where there is one: the hyphens of its ranges are en dashes. One range of numbers
-- after the same letters has its second number as the format shortens it, without the letters.
abbrev pub lettered : Option PageRangeFormat → List ℕ → List ℕ
lettered None cs = dashed cs
lettered (Some format) cs = in_format format cs
