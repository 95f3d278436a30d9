-- The contents of fields as values of a library.
use Rattle.std.specs.Prelude.{ℕ, Bool, List, [], ◌∷◌, ◌++◌, ◌==◌, ◌&&◌, ◌||◌, if◌then◌else◌, Option, Some, None, Result, Ok, Err, codes}
use Rattle.std.specs.Option.{option_map, option_eq, option_or}
use Rattle.std.specs.Ordering.{int_eq}
use Rattle.laws.specs.Characters.{space, colon}
use Rattle.laws.specs.Text.{text}
use Rattle.url.specs.Parser.{Parsed, parse_url}
use Rattle.url.specs.Parts.{Parts, serialize}
use Rattle.texts.specs.declared.reader.Unreadable.{Unreadable}
use Rattle.biblatex_content.specs.declared.chunk.Kind.TheVariants.{Normal}
use Rattle.biblatex_content.specs.Styled.{Member, letters, plain}
use Rattle.biblatex_dates.specs.Parts.{of_parts}
use Rattle.biblatex_dates.specs.Shape.{shape_of, date_of}
use Rattle.biblatex_dates.specs.declared.date.Date.{Date as SourceDate}
use Rattle.biblatex_dates.specs.declared.date.DateValue.{DateValue}
use Rattle.biblatex_dates.specs.declared.date.DateValue.TheVariants.{At, After, Before, Between}
use Rattle.biblatex_dates.specs.declared.datetime.Datetime.{Datetime}
use Rattle.biblatex_dates.specs.declared.error.TypeErrorKind.{TypeErrorKind}
use Rattle.literature_numbers.specs.Numerics.{Numeral, numeral_of}
use Rattle.literature_numbers.specs.Pages.{Part, pages_of}
use Rattle.literature_values.specs.declared.date.Date.{Date}
use Rattle.literature_values.specs.declared.date.DateEnd.{DateEnd}
use Rattle.literature_values.specs.declared.date.DateEnd.TheVariants.{On, Open}
use Rattle.literature_values.specs.PersonViews.{Named}
use Rattle.literature_values.specs.TextViews.{Format, Publishing}
use Rattle.literature_values.specs.OtherViews.{Address}
use Rattle.literature_values.specs.TypedViews.{ValueOrText, Value, Text}
use Rattle.interop_people.specs.People.{people_of}
use Rattle.interop_values.specs.Values.{Values, text_under}
use Rattle.interop_values.specs.Pieces.{pieces_of}

-- a text without a short form
abbrev pub format_of : List Member → Format
format_of ms = record { value = pieces_of ms; short = None }

-- a title, and a colon, a space and the subtitle after it
abbrev pub with_subtitle : List Member → Option (List Member) → List Member
with_subtitle ms None = ms
with_subtitle ms (Some sub) = ms ++ (letters Normal (colon ∷ space ∷ []) ++ sub)

-- the title of an entry, with its subtitle and its short form; without `title` there is none of them
abbrev pub title_of : Values → Option Format
title_of v = option_map (λ ms. record { value = pieces_of (with_subtitle ms (v (codes "subtitle"))); short = option_map pieces_of (v (codes "shorttitle")) }) (v (codes "title"))

-- the text under a name
abbrev pub format_under : List ℕ → Values → Option Format
format_under name v = option_map format_of (v name)

-- the people under a name
abbrev pub people_under : List ℕ → Values → Option (List Named)
people_under name v = people_of (v name)

-- what a text was read as, or the text
abbrev pub or_text : {V : Type 0} → List ℕ → Result V Unreadable → ValueOrText V
or_text cs (Ok v) = Value v
or_text cs (Err e) = Text cs

-- the numbers that a content spells, or its text
abbrev pub number_of : List Member → ValueOrText Numeral
number_of ms = or_text (plain ms) (numeral_of (plain ms))

-- the numbers under a name, or the text where it spells none
abbrev pub number_under : List ℕ → Values → Option (ValueOrText Numeral)
number_under name v = option_map number_of (v name)

-- the page ranges that a content spells, or its text
abbrev pub pages_in : List Member → ValueOrText (List Part)
pages_in ms = or_text (plain ms) (pages_of (plain ms))

-- the page ranges under a name, or the text where it spells none
abbrev pub pages_under : List ℕ → Values → Option (ValueOrText (List Part))
pages_under name v = option_map pages_in (v name)

-- the characters of a content, as bytes
abbrev pub bytes_of : List Member → List ℕ
bytes_of ms = text (plain ms)

-- the same of what stands under a name
abbrev pub bytes_under : List ℕ → Values → Option (List ℕ)
bytes_under name v = option_map bytes_of (v name)

-- a publisher by name and location, where one of them is there
abbrev pub publishing_of : Option (List Member) → Option (List Member) → Option Publishing
publishing_of None None = None
publishing_of name location = Some (record { name = option_map format_of name; location = option_map format_of location })

-- the publisher: its name is that of the publisher, else of the institution, else of the organization
abbrev pub publisher_of : Values → Option Publishing
publisher_of v = publishing_of (option_or (v (codes "publisher")) (option_or (v (codes "institution")) (v (codes "organization")))) (v (codes "location"))

-- the point that a date of a library begins with: the first of a range, the end of one without a start
abbrev pub point_of : DateValue → Datetime
point_of (At d) = d
point_of (After d) = d
point_of (Before d) = d
point_of (Between d e) = d

-- whether two points have one year, one month and one day
abbrev pub is_same_day : Datetime → Datetime → Bool
is_same_day d e = int_eq d.year e.year && (option_eq ◌==◌ d.month e.month && option_eq ◌==◌ d.day e.day)

-- the last of two points, unless it has the year, the month and the day of the first
abbrev pub end_between : Datetime → Datetime → Option DateEnd
end_between d e = if is_same_day d e then None else Some (On e.year e.month e.day)

-- what a date of a library ends with, where it is a range
abbrev pub end_of : DateValue → Option DateEnd
end_of (At d) = None
end_of (After d) = Some Open
end_of (Before d) = None
end_of (Between d e) = end_between d e

-- a date as a library has it: without its times, and approximate where it is uncertain or approximate, in whichever of its sides
abbrev pub library_date : SourceDate → Date
library_date d = record {
  year = (point_of d.value).year;
  month = (point_of d.value).month;
  day = (point_of d.value).day;
  end = end_of d.value;
  approximate = d.uncertain || d.approximate;
}

-- a date, or why the text is none; nothing where there is no text
abbrev pub ReadDate : Type 0
ReadDate = Option (Result SourceDate TypeErrorKind)

-- what a text reads as
abbrev pub date_in : List ℕ → ReadDate
date_in [] = None
date_in (c ∷ cs) = Some (date_of (shape_of (c ∷ cs)))

-- the same of what stands under a name
abbrev pub date_under : List ℕ → Values → ReadDate
date_under name v = date_in (text_under name v)

-- the date of year, month and day, as far as they can be read
abbrev pub date_by_parts : Values → Option SourceDate
date_by_parts v = of_parts (text_under (codes "year") v) (Some (text_under (codes "month") v)) (Some (text_under (codes "day") v))

-- a date that was read
abbrev pub sure : SourceDate → Result SourceDate TypeErrorKind
sure d = Ok d

-- the date of an entry: that of `date`, where it has a text, else that of year, month and day
abbrev pub own_date : Values → ReadDate
own_date v = option_or (date_under (codes "date") v) (option_map sure (date_by_parts v))

-- the date that a library has, where there is one
abbrev pub date_if_read : ReadDate → Option Date
date_if_read None = None
date_if_read (Some (Ok d)) = Some (library_date d)
date_if_read (Some (Err kind)) = None

-- an address as it is written once it has been read, or the text where it is none
abbrev pub url_or : List ℕ → Parsed Parts → ValueOrText (List ℕ)
url_or cs (Ok parts) = Value (serialize parts)
url_or cs (Err e) = Text cs

-- the address under `url`, with the day of the last visit
abbrev pub address_of : Option Date → Values → Option Address
address_of visited v = option_map (λ ms. record { value = url_or (plain ms) (parse_url None (bytes_of ms)); visit_date = visited }) (v (codes "url"))
