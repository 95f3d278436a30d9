-- What a `locale` means: terms, dates, endings of ordinal numbers, and its options.
use Rattle.std.specs.Prelude.{ℕ, Bool, List, map, codes, Option, option_and_then, unwrap_or}
use Rattle.xml_tree.specs.Trees.{Element}
use Rattle.rendering_locale.specs.Locales.{LocalizedDate, Locale}
use Rattle.rendering_taxonomy.specs.declared.date.DateForm.TheVariants as date_forms
use Rattle.csl_words.specs.Looking.{table, value_by, is_set}
use Rattle.csl_words.specs.Printing.{printed_text}
use Rattle.csl_words.specs.declared.options.TheConstants.{DATE_FORMS}
use Rattle.csl_words.specs.Elements.{content_in, part_called}
use Rattle.csl_locales.specs.Called.{called}
use Rattle.csl_nodes.specs.Dates.{date_parts}
use Rattle.csl_locales.specs.Languages.{language}
use Rattle.csl_locales.specs.Terms.{localized_term, terms_of}
use Rattle.csl_locales.specs.Endings.{ordinals_of}

-- a form of dates
abbrev pub localized_date : Element → LocalizedDate
localized_date e = record {
  form = unwrap_or (value_by (table DATE_FORMS.now) (codes "form") e) date_forms.Text;
  parts = date_parts (content_in e);
  delimiter = printed_text (codes "delimiter") e;
}

-- what an option of a locale is set to, if it says it
abbrev pub option_set : List ℕ → Element → Option Bool
option_set name e = option_and_then (is_set name) (part_called (codes "style-options") e)

-- a locale, by the words that no list has
abbrev pub locale : List (List ℕ) → Element → Locale
locale words e = record {
  lang = language e;
  terms = map (localized_term words) (terms_of e);
  dates = map localized_date (called (codes "date") e);
  ordinals = ordinals_of (terms_of e);
  punctuation_in_quote = option_set (codes "punctuation-in-quote") e;
  limits_day_ordinals = option_set (codes "limit-day-ordinals-to-day-1") e;
}
