-- Dates as they are printed, alone and as ranges. A side of a range is viewed as a date of its own.
use Rattle.std.specs.Prelude.{ℕ, ◌+◌, ◌==◌, Bool, true, false, not, ◌&&◌, ◌||◌, List, [], ◌∷◌, ◌++◌, filter, if◌then◌else◌, Option, Some, None, ℤ, pos, codes}
use Rattle.std.specs.List.{find, flat_map}
use Rattle.std.specs.Option.{option_and_then, option_map_or, unwrap_or}
use Rattle.std.specs.Ordering.{int_eq}
use Rattle.std.specs.Fmt.{decimal}
use Rattle.std.specs.Str.{bytes_eq}
use Rattle.laws.specs.Text.{is_filled}
use Rattle.date_parts.specs.Written.{padded}
use Rattle.literature_values.specs.declared.date.Date.{Date}
use Rattle.literature_values.specs.declared.date.DateEnd.{DateEnd}
use Rattle.literature_values.specs.declared.date.DateEnd.TheVariants.{On, Open}
use Rattle.rendering_taxonomy.specs.Formats.{changed}
use Rattle.rendering_locale.specs.Locales.{Locale, DatePart}
use Rattle.rendering_locale.specs.Lookup.{term, term_text, limits_day_ordinals, ordinals_of}
use Rattle.rendering_numbers.specs.Numbers.{ordinal_text}
use Rattle.rendering_numbers.specs.Years.{year_text}
use Rattle.rendering_page.specs.Pages.{Manner, uncased, with_case, Frame, empty_page}
use Rattle.rendering_page.specs.Pieces.{Piece, normal, framed, append_pieces}
use Rattle.rendering_page.specs.PageCharacters.{page_text}
use Rattle.rendering_dates.specs.Sides.{is_same_year, is_same_month, share_year, first_parts, last_parts}
use Rattle.rendering_taxonomy.specs.declared.date.LongShortForm.{LongShortForm}
use Rattle.rendering_taxonomy.specs.declared.date.LongShortForm.TheVariants as lengths
use Rattle.rendering_taxonomy.specs.declared.date.DateParts.{DateParts}
use Rattle.rendering_taxonomy.specs.declared.date.DateParts.TheVariants as cuts
use Rattle.rendering_taxonomy.specs.declared.date.DateDayForm.{DateDayForm}
use Rattle.rendering_taxonomy.specs.declared.date.DateDayForm.TheVariants as days
use Rattle.rendering_taxonomy.specs.declared.date.DateMonthForm.{DateMonthForm}
use Rattle.rendering_taxonomy.specs.declared.date.DateMonthForm.TheVariants as months
use Rattle.rendering_taxonomy.specs.declared.date.DatePartForm.{DatePartForm}
use Rattle.rendering_taxonomy.specs.declared.date.DatePartForm.TheVariants as parts
use Rattle.rendering_taxonomy.specs.declared.term.OtherTerm.TheVariants as others
use Rattle.rendering_taxonomy.specs.declared.term.Term.TheVariants as terms
use Rattle.rendering_taxonomy.specs.declared.term.TermForm.TheVariants as forms

-- what is written after a year from 1 on that has an era
abbrev pub ad_text : List Locale → List ℕ
ad_text ls = unwrap_or (term ls (terms.Other others.Ad) forms.Long false) (codes " AD")

-- what is written after a year before 1
abbrev pub bc_text : List Locale → List ℕ
bc_text ls = unwrap_or (term ls (terms.Other others.Bc) forms.Long false) (codes " BC")

-- whether a form is the short one
abbrev pub is_short : LongShortForm → Bool
is_short lengths.Long = false
is_short lengths.Short = true

-- a year with its era
abbrev pub year_by : List Locale → LongShortForm → ℤ → List ℕ
year_by ls form y = year_text y (is_short form) (ad_text ls) (bc_text ls)

-- whether a day, which counts from zero, is no ordinal number: one after the first, where of the days only the first is one
abbrev pub is_past_ordinals : List Locale → ℕ → Bool
is_past_ordinals ls d = not (d == 0) && limits_day_ordinals ls

-- a day as an ordinal number, or in digits alone where it is none
abbrev pub ordinal_day : List Locale → ℕ → List ℕ
ordinal_day ls d =
    if is_past_ordinals ls d then decimal (d + 1) else ordinal_text (ordinals_of ls) (pos (d + 1))

-- a day by its form; days count from zero
abbrev pub day_by : List Locale → DateDayForm → ℕ → List ℕ
day_by ls days.Numeric d = decimal (d + 1)
day_by ls days.TwoDigits d = padded 2 (d + 1)
day_by ls days.Ordinal d = ordinal_day ls d

-- a month by its form; months count from zero, and one without a term is empty
abbrev pub month_by : List Locale → DateMonthForm → ℕ → List ℕ
month_by ls months.Long m = term_text ls (terms.Month m) forms.Long false
month_by ls months.Short m = term_text ls (terms.Month m) forms.Short false
month_by ls months.Numeric m = decimal (m + 1)
month_by ls months.TwoDigits m = padded 2 (m + 1)

-- the text of a part, empty where the date has no such part
abbrev pub part_text : List Locale → Date → DatePartForm → List ℕ
part_text ls d (parts.Day form) = option_map_or (day_by ls form) d.day []
part_text ls d (parts.Month form) = option_map_or (month_by ls form) d.month []
part_text ls d (parts.Year form) = year_by ls form d.year

-- whether a part is printed where only so much of a date is
abbrev pub is_within : DateParts → DatePartForm → Bool
is_within cuts.YearMonthDay p = true
is_within cuts.YearMonth (parts.Day form) = false
is_within cuts.YearMonth p = true
is_within cuts.Year (parts.Year form) = true
is_within cuts.Year p = false

-- the parts of a date to print, the text between two of them, and whether the sides of a range print once what they share
pub record DateShape : Type 0 where
  pub parts : List DatePart
  pub delimiter : List ℕ
  pub merges_ranges : Bool

-- the shape with so much of a date
abbrev pub cut_to : DateParts → DateShape → DateShape
cut_to cut s = record s { parts = filter (λ p. is_within cut p.form) s.parts }

-- how a part's own text is appended
abbrev pub part_manner : Manner → DatePart → Manner
part_manner m p = with_case p.text_case (record m { formatting = changed p.formatting m.formatting; strips_periods = m.strips_periods || p.strips_periods })

-- a part's affixes, which look as what is around the part
abbrev pub part_frame : Manner → DatePart → Frame
part_frame m p = record { display = None; meta = None; manner = m; prefix = p.prefix; suffix = p.suffix }

-- the year suffix is that of the year
abbrev pub year_suffix_of : DatePartForm → List ℕ → List ℕ
year_suffix_of (parts.Year form) year_suffix = year_suffix
year_suffix_of p year_suffix = []

-- a text of a part, with the year suffix, whose case stays, directly after it, in the part's affixes
abbrev pub text_pieces : Manner → List ℕ → DatePart → List ℕ → List Piece
text_pieces m year_suffix p cs =
    framed (part_frame m p) (normal (part_manner m p) cs ∷ normal (uncased (part_manner m p)) (year_suffix_of p.form year_suffix) ∷ [])

-- the pieces of a text of a part, or nothing where the text is empty
abbrev pub filled_pieces : Manner → List ℕ → DatePart → List ℕ → List (List Piece)
filled_pieces m year_suffix p cs = if is_filled cs then text_pieces m year_suffix p cs ∷ [] else []

-- a part of a date
abbrev pub part_pieces : List Locale → Manner → List ℕ → Date → DatePart → List (List Piece)
part_pieces ls m year_suffix d p = filled_pieces m year_suffix p (part_text ls d p.form)

-- each with other pieces before it
abbrev pub each_after : List Piece → List (List Piece) → List Piece
each_after between pss = flat_map (λ ps. between ++ ps) pss

-- with other pieces between any two of them
abbrev pub joined_with : List Piece → List (List Piece) → List Piece
joined_with between [] = []
joined_with between (ps ∷ pss) = ps ++ each_after between pss

-- the parts of a date that is no range, with the delimiter between any two that are printed
abbrev pub side_pieces : List Locale → Manner → DateShape → List ℕ → Date → List Piece
side_pieces ls m shape year_suffix d = joined_with (normal m shape.delimiter ∷ []) (flat_map (part_pieces ls m year_suffix d) shape.parts)

-- what it prints by itself
abbrev pub side_text : List Locale → Manner → DateShape → Date → List ℕ
side_text ls m shape d = page_text (append_pieces [] (side_pieces ls m shape [] d) empty_page).tokens

-- an en dash
abbrev pub dash : List ℕ
dash = codes "–"

-- whether a part is the largest in which they differ, if they differ
abbrev pub differs_first : Date → Date → DatePartForm → Bool
differs_first first last (parts.Year form) = not (is_same_year first last)
differs_first first last (parts.Month form) = is_same_year first last && not (is_same_month first last)
differs_first first last (parts.Day form) = is_same_year first last && is_same_month first last

-- what stands between the sides of a range: the delimiter of the part that is the largest in which they differ, or an en dash
abbrev pub range_delimiter : Date → Date → List DatePart → List ℕ
range_delimiter first last ps = unwrap_or (option_and_then (λ p. p.range_delimiter) (find (λ p. differs_first first last p.form) ps)) dash

-- the first side, what stands between and the last side, which has the year suffix
abbrev pub whole_sides : List Locale → Manner → DateShape → List ℕ → Date → Date → List Piece
whole_sides ls m shape year_suffix first last =
    side_pieces ls m shape [] first
    ++ normal m (range_delimiter first last shape.parts) ∷ []
    ++ side_pieces ls m shape year_suffix last

-- the first side without what the last one prints for both; it has the year suffix if its year stands for both
abbrev pub first_half : List Locale → Manner → DateShape → List ℕ → Date → Date → List Piece
first_half ls m shape year_suffix first last =
    side_pieces ls m (record shape { parts = first_parts first last shape.parts })
    (if share_year first last then year_suffix else []) first

-- the last side without what the first one prints for both
abbrev pub last_half : List Locale → Manner → DateShape → List ℕ → Date → Date → List Piece
last_half ls m shape year_suffix first last =
    side_pieces ls m (record shape { parts = last_parts first last shape.parts }) year_suffix last

-- both sides, which print once what they share, and what stands between
abbrev pub merged_sides : List Locale → Manner → DateShape → List ℕ → Date → Date → List Piece
merged_sides ls m shape year_suffix first last =
    first_half ls m shape year_suffix first last
    ++ normal m (range_delimiter first last shape.parts) ∷ []
    ++ last_half ls m shape year_suffix first last

-- both sides, as the shape says
abbrev pub sides : List Locale → Manner → DateShape → List ℕ → Date → Date → List Piece
sides ls m shape year_suffix first last =
    if shape.merges_ranges
    then merged_sides ls m shape year_suffix first last
    else whole_sides ls m shape year_suffix first last

-- both sides, or the first alone where both print the same
abbrev pub both_pieces : List Locale → Manner → DateShape → List ℕ → Date → Date → List Piece
both_pieces ls m shape year_suffix first last =
    if bytes_eq (side_text ls m shape first) (side_text ls m shape last)
    then side_pieces ls m shape year_suffix first
    else sides ls m shape year_suffix first last

-- what a range ends with, as a date of its own
abbrev pub last_side : Date → ℤ → Option ℕ → Option ℕ → Date
last_side d y month day = record d { year = y; month = month; day = day; end = None }

-- a date by what it ends with, if it is a range
abbrev pub ended_pieces : List Locale → Manner → DateShape → List ℕ → Date → Option DateEnd → List Piece
ended_pieces ls m shape year_suffix d None = side_pieces ls m shape year_suffix d
ended_pieces ls m shape year_suffix d (Some (On y month day)) = both_pieces ls m shape year_suffix d (last_side d y month day)
ended_pieces ls m shape year_suffix d (Some Open) = side_pieces ls m shape year_suffix d ++ normal m dash ∷ []

-- A date in its shape, with a year suffix. Of a range both sides where they print otherwise, or the first and a dash
-- where it has no end yet.
abbrev pub date_pieces : List Locale → Manner → DateShape → List ℕ → Date → List Piece
date_pieces ls m shape year_suffix d = ended_pieces ls m shape year_suffix d d.end

-- a whole year
abbrev pub whole_year : List Locale → ℤ → List ℕ
whole_year ls y = year_by ls lengths.Long y

-- what stands after the first year of a range: a dash, and the year of the end; nothing where that is the same year
abbrev pub other_year : List Locale → ℤ → Option DateEnd → List ℕ
other_year ls first None = []
other_year ls first (Some (On y month day)) = if int_eq first y then [] else dash ++ whole_year ls y
other_year ls first (Some Open) = dash

-- the year alone, of a range with that of its end
abbrev pub years_text : List Locale → Date → List ℕ
years_text ls d = whole_year ls d.year ++ other_year ls d.year d.end
