-- How English prints dates and ordinal numbers.
use Rattle.std.specs.Prelude.{ℕ, false, List, [], ◌∷◌, None, codes}
use Rattle.rendering_locale.specs.Locales.{DatePart, LocalizedDate, OrdinalEnding, Ordinals}
use Rattle.rendering_taxonomy.specs.Formats.{unchanged}
use Rattle.rendering_taxonomy.specs.declared.date.DateForm.{DateForm}
use Rattle.rendering_taxonomy.specs.declared.date.DateForm.TheVariants as dated
use Rattle.rendering_taxonomy.specs.declared.date.DateDayForm.TheVariants as days
use Rattle.rendering_taxonomy.specs.declared.date.DateMonthForm.TheVariants as months
use Rattle.rendering_taxonomy.specs.declared.date.LongShortForm.TheVariants as years
use Rattle.rendering_taxonomy.specs.declared.date.DatePartForm.{DatePartForm}
use Rattle.rendering_taxonomy.specs.declared.date.DatePartForm.TheVariants as parts

-- a part of a date, and what stands after it
abbrev pub part : DatePartForm → List ℕ → DatePart
part form suffix = record { form = form; strips_periods = false; text_case = None; formatting = unchanged; prefix = []; suffix = suffix; range_delimiter = None }

-- the parts of a date in words
unfoldable pub text_parts : List DatePart
text_parts = part (parts.Month months.Long) (codes " ") ∷ part (parts.Day days.Numeric) (codes ", ") ∷ part (parts.Year years.Long) [] ∷ []

-- the parts of a date in digits
unfoldable pub numeric_parts : List DatePart
numeric_parts = part (parts.Month months.TwoDigits) (codes "/") ∷ part (parts.Day days.TwoDigits) (codes "/") ∷ part (parts.Year years.Long) [] ∷ []

-- a form of dates
abbrev pub date : DateForm → List DatePart → LocalizedDate
date form ps = record { form = form; parts = ps; delimiter = [] }

-- both forms
abbrev pub dates : List LocalizedDate
dates = date dated.Text text_parts ∷ date dated.Numeric numeric_parts ∷ []

-- an ending of all genders, with the numbers that its number says
abbrev pub ending : ℕ → List ℕ → OrdinalEnding
ending n cs = record { number = n; ending = cs; gender = None; only = None }

-- the numbers with an ending of their own
unfoldable pub endings : List OrdinalEnding
endings = ending 1 (codes "st") ∷ ending 2 (codes "nd") ∷ ending 3 (codes "rd") ∷ ending 11 (codes "th") ∷ ending 12 (codes "th") ∷ ending 13 (codes "th") ∷ []

-- the ending of all other numbers
abbrev pub default_ending : List ℕ
default_ending = codes "th"

-- the endings of ordinal numbers
abbrev pub ordinals : Ordinals
ordinals = record { endings = endings; default = default_ending }
