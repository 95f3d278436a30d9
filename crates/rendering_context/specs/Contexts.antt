-- What nodes are printed from.
use Rattle.std.specs.Prelude.{ℕ, Bool, List, Option}
use Rattle.rendering_entries.specs.Answers.{Answers}
use Rattle.rendering_locale.specs.Locales.{Locale}
use Rattle.rendering_style.specs.Styles.{Style}
use Rattle.rendering_context.specs.Cites.{CiteProperties}
use Rattle.rendering_taxonomy.specs.declared.page.PageRangeFormat.{PageRangeFormat}

-- What a call prints from: what the entry answers, what is known of the cite, the locales that are asked, the close quotes inside which
-- punctuation goes, the year suffix of the cite, whether an item of a bibliography is printed, whether a layout of the style prints the
-- year suffix by itself, how the style shortens ranges of pages, whether the language of the call is English, and whether numbers,
-- ranges and locators are printed as in published styles.
pub record Context : Type 0 where
  pub answers : Answers
  pub properties : CiteProperties
  pub locales : List Locale
  pub quotes : List (List ℕ)
  pub year_suffix : List ℕ
  pub is_bibliography : Bool
  pub has_suffix_node : Bool
  pub page_ranges : Option PageRangeFormat
  pub in_english : Bool
  pub is_published : Bool

-- A style with the language that is asked for, and the files with locales.
pub record StyleContext : Type 0 where
  pub style : Style
  pub locale : Option (List ℕ)
  pub locale_files : List Locale
