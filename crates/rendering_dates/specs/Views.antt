-- The code's values without where they lie in memory.
use Rattle.std.specs.Prelude.{ℕ, List, [], ◌∷◌, map, filter, if◌then◌else◌}
use Rattle.std.specs.List.{flat_map}
use Rattle.std.specs.Option.{option_map}
use Rattle.laws.specs.Text.{characters, spelled}
use Rattle.literature_values.specs.declared.date.Date.{Date}
use Rattle.rendering_locale.specs.Locales.{DatePart}
use Rattle.rendering_locale.specs.Views.{part_view}
use Rattle.rendering_locale.specs.declared.locale.DatePart as slices
use Rattle.rendering_style.specs.Views.{part_change_view}
use Rattle.rendering_taxonomy.specs.Views.{changes_view}
use Rattle.rendering_page.specs.Pieces.{Piece, normal}
use Rattle.rendering_page.specs.Views.{manner_view}
use Rattle.rendering_dates.specs.Changes.{changed_part}
use Rattle.rendering_dates.specs.Dates as dates
use Rattle.rendering_dates.specs.Dates.{cut_to, first_half, is_within, last_half, part_pieces, side_pieces}
use Rattle.rendering_dates.specs.declared.changes.PrintedPart.{PrintedPart}
use Rattle.rendering_dates.specs.declared.parts.PartText.{PartText}
use Rattle.rendering_dates.specs.declared.parts.PartText.TheVariants.{Absent, Word, Number}
use Rattle.rendering_dates.specs.declared.shape.DateShape.{DateShape}
use Rattle.rendering_dates.specs.declared.sides.DateStyle.{DateStyle}

-- a part as it is printed
abbrev pub printed_view : PrintedPart → DatePart
printed_view p = record {
  form = p.form;
  strips_periods = p.strip_periods;
  text_case = p.text_case;
  formatting = changes_view p.formatting;
  prefix = spelled p.prefix;
  suffix = spelled p.suffix;
  range_delimiter = option_map spelled p.range_delimiter;
}

-- parts with the changes of a shape
abbrev pub changed_by : DateShape → List DatePart → List DatePart
changed_by s ps = map (changed_part (map part_change_view s.changes.now)) ps

-- all parts of a shape, and the text between two of them
abbrev pub whole_shape : DateShape → dates.DateShape
whole_shape s = record { parts = changed_by s (map part_view s.parts.now); delimiter = spelled s.delimiter; merges_ranges = s.merges_ranges }

-- those that are printed
abbrev pub printed_by : DateShape → List DatePart → List DatePart
printed_by s ps = filter (λ p. is_within s.cut p.form) ps

-- a shape with the parts that are printed
abbrev pub shape_view : DateShape → dates.DateShape
shape_view s = cut_to s.cut (whole_shape s)

-- the text of a part
abbrev pub part_text_view : PartText → List ℕ
part_text_view Absent = []
part_text_view (Word s) = spelled s
part_text_view (Number s) = characters s

-- the text between two parts
abbrev pub delimiter_by : DateStyle → List Piece
delimiter_by s = normal (manner_view s.manner) (spelled s.shape.delimiter) ∷ []

-- parts of a date, those that are printed
abbrev pub parts_by : DateStyle → List ℕ → Date → List DatePart → List (List Piece)
parts_by s year_suffix d ps = flat_map (part_pieces s.locales.now (manner_view s.manner) year_suffix d) (printed_by s.shape ps)

-- the parts of a slice, with the changes of the shape
abbrev pub listed_by : DateStyle → List ℕ → Date → List slices.DatePart → List (List Piece)
listed_by s year_suffix d ps = parts_by s year_suffix d (changed_by s.shape (map part_view ps))

-- one part of a date, if it is printed
abbrev pub part_by : DateStyle → List ℕ → Date → DatePart → List (List Piece)
part_by s year_suffix d p = if is_within s.shape.cut p.form then part_pieces s.locales.now (manner_view s.manner) year_suffix d p else []

-- the parts of a date that is no range
abbrev pub side_by : DateStyle → List ℕ → Date → List Piece
side_by s year_suffix d = side_pieces s.locales.now (manner_view s.manner) (shape_view s.shape) year_suffix d

-- the first side of a range without what the last one prints for both
abbrev pub first_half_by : DateStyle → List ℕ → Date → Date → List Piece
first_half_by s year_suffix first last = first_half s.locales.now (manner_view s.manner) (shape_view s.shape) year_suffix first last

-- the last side without what the first one prints for both
abbrev pub last_half_by : DateStyle → List ℕ → Date → Date → List Piece
last_half_by s year_suffix first last = last_half s.locales.now (manner_view s.manner) (shape_view s.shape) year_suffix first last
