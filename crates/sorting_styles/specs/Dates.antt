-- Dates as they print for sorting: year, month and day in digits, each where the date prints it.
use Rattle.std.specs.Prelude.{Bool, true, false, not, ◌||◌, List, [], ◌∷◌, ◌++◌, if◌then◌else◌, Some, None, is_none}
use Rattle.std.specs.List.{list_any}
use Rattle.laws.specs.Text.{is_filled}
use Rattle.rendering_taxonomy.specs.Formats.{unchanged}
use Rattle.rendering_taxonomy.specs.declared.date.DateDayForm.TheVariants as days
use Rattle.rendering_taxonomy.specs.declared.date.DateMonthForm.TheVariants as months
use Rattle.rendering_taxonomy.specs.declared.date.LongShortForm.TheVariants as lengths
use Rattle.rendering_taxonomy.specs.declared.date.DatePartForm.{DatePartForm}
use Rattle.rendering_taxonomy.specs.declared.date.DatePartForm.TheVariants as parts
use Rattle.rendering_locale.specs.Locales.{DatePart}
use Rattle.rendering_style.specs.Nodes.{DateNode}

-- a part of a date for which nothing but its form is specified
abbrev pub plain_part : DatePartForm → DatePart
plain_part form =
    record {
      form = form;
      strips_periods = false;
      text_case = None;
      formatting = unchanged;
      prefix = [];
      suffix = [];
      range_delimiter = None;
    }

-- whether two forms are of the same part
abbrev pub is_same_part : DatePartForm → DatePartForm → Bool
is_same_part (parts.Day f) (parts.Day g) = true
is_same_part (parts.Month f) (parts.Month g) = true
is_same_part (parts.Year f) (parts.Year g) = true
is_same_part f g = false

-- whether a part is among some
abbrev pub has_part : List DatePart → DatePartForm → Bool
has_part ps form = list_any (λ p. is_same_part p.form form) ps

-- Whether a date prints its own parts alone: they stand for those of the locale, or there is no form of the locale's.
abbrev pub prints_own : DateNode → Bool
prints_own d = is_filled d.own_parts || is_none d.form

-- whether a date may print a part, before it is cut
abbrev pub may_print : DateNode → DatePartForm → Bool
may_print d form = not (prints_own d) || has_part d.own_parts form

-- a part, if the date may print it
abbrev pub part_if : DateNode → DatePartForm → List DatePart
part_if d form = if may_print d form then plain_part form ∷ [] else []

-- the parts of a date for sorting, in their order
abbrev pub sorting_parts : DateNode → List DatePart
sorting_parts d =
    part_if d (parts.Year lengths.Long) ++ (part_if d (parts.Month months.TwoDigits)
    ++ part_if d (parts.Day days.TwoDigits))

-- A date for sorting: these parts with nothing between them, cut as before; both sides of a range whole.
abbrev pub sorting_date : DateNode → DateNode
sorting_date d =
    record d {
      form = None;
      own_parts = sorting_parts d;
      part_changes = [];
      delimiter = Some [];
      merges_ranges = false;
    }
