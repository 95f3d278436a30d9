-- A style that prints titles in italics, by a macro.
use Rattle.std.specs.Prelude.{[], ◌∷◌, Option, Some, None, codes}
use Rattle.cite_styles.specs.Layouts.{plain_layout}
use Rattle.cite_styles.specs.Nodes.{answer, italic_text, plain_text}
use Rattle.rendering_style.specs.Nodes.{TextLook, call, plain_look}
use Rattle.rendering_style.specs.Options.{open_options}
use Rattle.rendering_style.specs.Styles.{Layout, Macro, Style, plain_citation}
use Rattle.rendering_taxonomy.specs.Formats.{unchanged}
use Rattle.rendering_taxonomy.specs.declared.formatting.FontStyle.{FontStyle}
use Rattle.rendering_taxonomy.specs.declared.page.PageRule.TheVariants.{AsWritten}
use Rattle.rendering_taxonomy.specs.declared.style.StyleClass.TheVariants.{InText}
use Rattle.rendering_taxonomy.specs.declared.variable.StandardVariable.TheVariants.{Title}
use Rattle.rendering_taxonomy.specs.declared.variable.Variable.TheVariants.{Standard}

-- a text for which nothing is specified but the style of its font
abbrev pub in_font : Option FontStyle → TextLook
in_font style = record plain_text { look = record plain_look { formatting = record unchanged { font_style = style } } }

-- the macro: the title, in italics
unfoldable pub title_macro : Macro
title_macro = record { name = codes "title"; nodes = answer (Standard Title) italic_text ∷ [] }

-- a call of the macro for each cite, and commas between cites
unfoldable pub title_layout : Layout
title_layout = record (plain_layout (call (codes "title") plain_text ∷ [])) { delimiter = Some (codes ", ") }

-- the style: cites that are not disambiguated, and no bibliography
unfoldable pub titles : Style
titles = record {
  class = InText;
  categories = [];
  default_locale = None;
  page_ranges = None;
  page_rule = AsWritten;
  name_options = open_options;
  locales = [];
  macros = title_macro ∷ [];
  citation = plain_citation title_layout;
  bibliography = None;
  citation_sort = [];
  bibliography_sort = [];
}
