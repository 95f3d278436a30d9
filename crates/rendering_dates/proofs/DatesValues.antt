-- Parts of some dates, years of ranges, and the parts that the sides of ranges print.
use Rattle.std.proofs.Common.{◌≡◌, ℕ, List, [], ◌∷◌, ◌++◌, Option, Some, None, true, false, codes, pos, refl}
use Rattle.std.specs.Fmt.{digits}
use Rattle.literature_values.specs.declared.date.Date.{Date}
use Rattle.literature_values.specs.declared.date.DateEnd.{DateEnd}
use Rattle.literature_values.specs.declared.date.DateEnd.TheVariants.{On, Open}
use Rattle.rendering_locale.specs.Locales.{Locale, DatePart, OrdinalEnding}
use Rattle.rendering_dates.specs.Dates.{dash, part_text, years_text}
use Rattle.rendering_dates.specs.Sides.{first_parts, last_parts, without_prefix, without_suffix}
use Rattle.rendering_taxonomy.specs.Formats.{unchanged}
use Rattle.rendering_taxonomy.specs.declared.date.DatePartForm.{DatePartForm}
use Rattle.rendering_taxonomy.specs.declared.date.DateDayForm.TheVariants as days
use Rattle.rendering_taxonomy.specs.declared.date.DateMonthForm.TheVariants as months
use Rattle.rendering_taxonomy.specs.declared.date.DatePartForm.TheVariants.{Day, Month, Year}
use Rattle.rendering_taxonomy.specs.declared.date.LongShortForm.TheVariants as lengths
use Rattle.rendering_taxonomy.specs.declared.term.Term.TheVariants as terms
use Rattle.rendering_taxonomy.specs.declared.term.TermForm.TheVariants as forms

-- an ending of all genders, with the numbers that its number says
abbrev ending : ℕ → List ℕ → OrdinalEnding
ending n cs = record { number = n; ending = cs; gender = None; only = None }

-- a locale with a short word for January, and endings of numbers
abbrev english : Locale
english = record {
  lang = None;
  terms = record { name = terms.Month 0; form = forms.Short; single = Some (codes "Jan."); multiple = None; gender = None } ∷ [];
  dates = [];
  ordinals = Some (record { endings = ending 1 (codes "st") ∷ ending 2 (codes "nd") ∷ []; default = codes "th" });
  punctuation_in_quote = None;
  limits_day_ordinals = None;
}

-- a year, a month and a day, alone or with an end
abbrev date : ℕ → Option ℕ → Option ℕ → Option DateEnd → Date
date y month day end = record { year = pos y; month = month; day = day; end = end; approximate = false }

pub second_of_january : part_text (english ∷ []) (date 2014 (Some 0) (Some 1) None) (Day days.Ordinal) ≡ codes "2nd"
unfolding digits
second_of_january = refl

pub day_without_endings : part_text [] (date 2014 (Some 0) (Some 1) None) (Day days.Ordinal) ≡ codes "2"
unfolding digits
day_without_endings = refl

-- a locale by which of the days only the first is an ordinal number
abbrev limited : Locale
limited = record english { limits_day_ordinals = Some true }

pub first_of_january : part_text (limited ∷ []) (date 2014 (Some 0) (Some 0) None) (Day days.Ordinal) ≡ codes "1st"
unfolding digits
first_of_january = refl

pub second_in_digits : part_text (limited ∷ []) (date 2014 (Some 0) (Some 1) None) (Day days.Ordinal) ≡ codes "2"
unfolding digits
second_in_digits = refl

pub no_day : part_text [] (date 2014 (Some 0) None None) (Day days.Numeric) ≡ []
no_day = refl

pub short_january : part_text (english ∷ []) (date 2014 (Some 0) None None) (Month months.Short) ≡ codes "Jan."
short_january = refl

pub january_in_digits : part_text [] (date 2014 (Some 0) None None) (Month months.TwoDigits) ≡ codes "01"
unfolding digits
january_in_digits = refl

pub short_2014 : part_text [] (date 2014 None None None) (Year lengths.Short) ≡ codes "14"
unfolding digits
short_2014 = refl

pub short_800 : part_text [] (date 800 None None None) (Year lengths.Short) ≡ codes "800 AD"
unfolding digits
short_800 = refl

pub years_apart : years_text [] (date 2014 None None (Some (On (pos 2016) None None))) ≡ codes "2014" ++ dash ++ codes "2016"
unfolding digits
years_apart = refl

pub years_alike : years_text [] (date 2014 (Some 4) None (Some (On (pos 2014) (Some 5) None))) ≡ codes "2014"
unfolding digits
years_alike = refl

pub years_open : years_text [] (date 2014 None None (Some Open)) ≡ codes "2014" ++ dash
unfolding digits
years_open = refl

-- a part between parentheses
abbrev part : DatePartForm → DatePart
part form = record { form = form; strips_periods = false; text_case = None; formatting = unchanged; prefix = codes "("; suffix = codes ")"; range_delimiter = None }

abbrev day : DatePart
day = part (Day days.Numeric)

abbrev month : DatePart
month = part (Month months.Long)

abbrev year : DatePart
year = part (Year lengths.Long)

-- the third of August in 2014, and other dates
abbrev third : Date
third = date 2014 (Some 7) (Some 2) None

pub first_day : first_parts third (date 2014 (Some 7) (Some 5) None) (day ∷ month ∷ year ∷ []) ≡ without_suffix day ∷ []
first_day = refl

pub last_day : last_parts third (date 2014 (Some 7) (Some 5) None) (day ∷ month ∷ year ∷ []) ≡ without_prefix day ∷ month ∷ year ∷ []
last_day = refl

pub day_after_a_month : first_parts third (date 2014 (Some 7) (Some 5) None) (month ∷ day ∷ year ∷ []) ≡ month ∷ without_suffix day ∷ []
day_after_a_month = refl

pub first_month : first_parts third (date 2014 (Some 8) (Some 2) None) (month ∷ day ∷ year ∷ []) ≡ month ∷ without_suffix day ∷ []
first_month = refl

pub last_month : last_parts third (date 2014 (Some 8) (Some 2) None) (month ∷ day ∷ year ∷ []) ≡ without_prefix month ∷ day ∷ year ∷ []
last_month = refl

pub last_day_of_a_year : last_parts third (date 2014 (Some 7) (Some 5) None) (year ∷ month ∷ day ∷ []) ≡ without_prefix day ∷ []
last_day_of_a_year = refl

pub first_year : first_parts third (date 2015 (Some 7) (Some 2) None) (year ∷ []) ≡ without_suffix year ∷ []
first_year = refl

pub year_without_months : first_parts (date 2014 None None None) (date 2016 None None None) (year ∷ month ∷ []) ≡ without_suffix year ∷ []
year_without_months = refl

pub year_with_one_month : last_parts (date 2014 None None None) third (month ∷ year ∷ []) ≡ without_prefix month ∷ year ∷ []
year_with_one_month = refl
