-- The words of a call.
use Rattle.std.specs.Prelude.{ℕ, Bool, List, if◌then◌else◌, Option, Some, None}
use Rattle.std.specs.Option.{option_or}
use Rattle.rendering_context.specs.Contexts.{StyleContext}
use Rattle.rendering_entries.specs.Library.{is_english}
use Rattle.rendering_locale.specs.Locales.{Locale}
use Rattle.rendering_locale.specs.Lookup.{asked, language, close_quotes}
use Rattle.rendering_page.specs.Pages.{Quotes, is_joined}
use Rattle.rendering_page.specs.Views.{quotes_view}
use Rattle.rendering.specs.declared.locale_words.Words.{Words}

-- the locales that a call asks, their close quotes inside which punctuation goes, and whether its language is English
pub record CallWords : Type 0 where
  pub locales : List Locale
  pub quotes : Quotes
  pub are_english : Bool

-- the language of a call
abbrev pub language_of : StyleContext → Option (List ℕ) → List ℕ
language_of x term_locale = language (option_or term_locale x.locale) x.style.default_locale

-- the locales that a call asks
abbrev pub locales_of : StyleContext → Option (List ℕ) → List Locale
locales_of x term_locale = asked (language_of x term_locale) x.style.locales x.locale_files

-- the words of a call
abbrev pub words_of : StyleContext → Option (List ℕ) → CallWords
words_of x term_locale = record {
  locales = locales_of x term_locale;
  quotes = close_quotes (locales_of x term_locale);
  are_english = is_english (language_of x term_locale);
}

-- where a style joins texts, the close quotes inside which punctuation goes in the words of a call that asks for no language
abbrev pub joining_quotes : StyleContext → Option Quotes
joining_quotes x = if is_joined x.style.page_rule then Some (words_of x None).quotes else None

-- words without where they lie in memory
abbrev pub words_view : Words → CallWords
words_view w = record { locales = w.locales; quotes = quotes_view w.quotes.items; are_english = w.are_english }
