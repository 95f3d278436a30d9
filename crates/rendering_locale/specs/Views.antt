-- Locales without where they lie in memory. Codes of languages are viewed as bytes, all other texts as characters.
use Rattle.std.specs.Prelude.{List, map}
use Rattle.std.specs.Borrow.{Bor}
use Rattle.std.specs.Option.{option_map}
use Rattle.laws.specs.Text.{characters}
use Rattle.rendering_taxonomy.specs.Views.{changes_view}
use Rattle.rendering_locale.specs.CodeViews.{code_view}
use Rattle.rendering_locale.specs.Locales as locales
use Rattle.rendering_locale.specs.declared.locale.OrdinalEnding.{OrdinalEnding}
use Rattle.rendering_locale.specs.declared.locale.Ordinals.{Ordinals}
use Rattle.rendering_locale.specs.declared.locale.DatePart.{DatePart}
use Rattle.rendering_locale.specs.declared.locale.LocalizedDate.{LocalizedDate}
use Rattle.rendering_locale.specs.declared.locale.Locale.{Locale}
use Rattle.rendering_locale.specs.declared.terms.Terms.{Terms}
pub use Rattle.rendering_locale.specs.TermViews.{term_view}

-- the terms of a locale
abbrev pub terms_view : Terms → List locales.LocalizedTerm
terms_view ts = map term_view ts.terms.items

-- an ending
abbrev pub ending_view : OrdinalEnding → locales.OrdinalEnding
ending_view e = record { number = e.number; ending = characters e.ending; gender = e.gender; only = e.only }

-- the endings of ordinal numbers
abbrev pub ordinals_view : Ordinals → locales.Ordinals
ordinals_view o = record { endings = map ending_view o.endings.items; default = characters o.default }

-- a part of a date
abbrev pub part_view : DatePart → locales.DatePart
part_view p = record {
  form = p.form;
  strips_periods = p.strip_periods;
  text_case = p.text_case;
  formatting = changes_view p.formatting;
  prefix = characters p.prefix;
  suffix = characters p.suffix;
  range_delimiter = option_map characters p.range_delimiter;
}

-- a form of dates
abbrev pub localized_date_view : LocalizedDate → locales.LocalizedDate
localized_date_view d = record { form = d.form; parts = map part_view d.parts.items; delimiter = characters d.delimiter }

-- a locale
abbrev pub locale_view : Locale → locales.Locale
locale_view l = record {
  lang = option_map code_view l.lang;
  terms = terms_view l.terms;
  dates = map localized_date_view l.dates.items;
  ordinals = option_map ordinals_view l.ordinals;
  punctuation_in_quote = l.punctuation_in_quote;
  limits_day_ordinals = l.limit_day_ordinals_to_day_1;
}

-- borrowed locales
abbrev pub locales_view : List (Bor Locale) → List locales.Locale
locales_view ls = map (λ l. locale_view l.now) ls
