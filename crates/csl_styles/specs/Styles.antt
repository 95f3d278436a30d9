-- What a whole style means.
use Rattle.std.specs.Prelude.{ℕ, true, List, [], map, codes, Option, Some, unwrap_or}
use Rattle.std.specs.Option.{option_map, option_map_or}
use Rattle.laws.specs.Text.{text}
use Rattle.xml_tree.specs.Trees.{Element}
use Rattle.rendering_style.specs.Options.{NameOptions}
use Rattle.rendering_style.specs.Sorting.{SortKey}
use Rattle.rendering_style.specs.Styles.{Citation, plain_citation, Bibliography, Style}
use Rattle.rendering_taxonomy.specs.declared.page.PageRule.TheVariants.{Joined}
use Rattle.rendering_taxonomy.specs.declared.style.StyleClass.TheVariants.{InText}
use Rattle.csl_words.specs.Looking.{table, attribute, value_by}
use Rattle.csl_words.specs.declared.options.TheConstants.{CLASSES, PAGE_RANGES}
use Rattle.csl_words.specs.Elements.{part_called}
use Rattle.csl_locales.specs.Called.{called}
use Rattle.csl_nodes.specs.Options.{name_options}
use Rattle.csl_nodes.specs.Nodes.{macro_of}
use Rattle.csl_locales.specs.Locales.{locale}
use Rattle.csl_styles.specs.Information.{categories_of}
use Rattle.csl_styles.specs.Layouts.{empty_layout, sort_keys}
use Rattle.csl_styles.specs.Citations.{citation}
use Rattle.csl_styles.specs.Locators.{asks_locator}
use Rattle.csl_styles.specs.Bibliographies.{bibliography}

-- options of names under which particles go after given names, where they say nothing of it
abbrev pub demoting : NameOptions → NameOptions
demoting o = record o { demote = Some (unwrap_or o.demote true) }

-- options of names under which full stops part what has an initial
abbrev pub splitting : NameOptions → NameOptions
splitting o = record o { splits_initials = Some true }

-- the options of names that a style has for all of its layouts
abbrev pub style_options : Element → NameOptions
style_options e =
    splitting (demoting (name_options (codes "name-form") (codes "name-delimiter") e))

-- its default locale, in bytes
abbrev pub default_locale : Element → Option (List ℕ)
default_locale e = option_map text (attribute (codes "default-locale") e)

-- its citation, and its bibliography, if it has one
abbrev pub citation_in : List (List ℕ) → Element → Citation
citation_in words e = option_map_or (citation words (asks_locator e)) (part_called (codes "citation") e) (plain_citation empty_layout)

abbrev pub bibliography_in : List (List ℕ) → Element → Option Bibliography
bibliography_in words e = option_map (bibliography words) (part_called (codes "bibliography") e)

-- the keys of its citation or of its bibliography
abbrev pub keys_in : List ℕ → Element → List SortKey
keys_in name e = option_map_or sort_keys (part_called name e) []

-- a style, by the words of terms that no list has
abbrev pub style : List (List ℕ) → Element → Style
style words e = record {
  class = unwrap_or (value_by (table CLASSES.now) (codes "class") e) InText;
  categories = categories_of e;
  default_locale = default_locale e;
  page_ranges = value_by (table PAGE_RANGES.now) (codes "page-range-format") e;
  page_rule = Joined;
  name_options = style_options e;
  locales = map (locale words) (called (codes "locale") e);
  macros = map (macro_of words) (called (codes "macro") e);
  citation = citation_in words e;
  bibliography = bibliography_in words e;
  citation_sort = keys_in (codes "citation") e;
  bibliography_sort = keys_in (codes "bibliography") e;
}
