-- Layouts, citations and bibliographies for which little is specified.
use Rattle.std.specs.Prelude.{ℕ, false, List, [], ◌∷◌, Option, Some, None, codes, pos}
use Rattle.rendering_style.specs.Nodes.{Node}
use Rattle.rendering_style.specs.Options.{open_options}
use Rattle.rendering_style.specs.Styles.{Layout, Citation, Bibliography, Style}
use Rattle.rendering_taxonomy.specs.Formats.{unchanged}
use Rattle.rendering_taxonomy.specs.declared.page.PageRule.TheVariants as page_rules
use Rattle.rendering_taxonomy.specs.declared.style.StyleCategory.{StyleCategory}
use Rattle.rendering_taxonomy.specs.declared.style.StyleClass.{StyleClass}
use Rattle.rendering_taxonomy.specs.declared.style.SubsequentAuthorSubstituteRule.TheVariants as substitutes

-- nodes with nothing round them
abbrev pub plain_layout : List Node → Layout
plain_layout xs = record { nodes = xs; formatting = unchanged; prefix = None; suffix = None; delimiter = None }

-- nodes with a full stop after them
abbrev pub sentence : List Node → Layout
sentence xs = record (plain_layout xs) { suffix = Some (codes ".") }

-- a node between brackets, and a text between cites
abbrev pub bracketed : List ℕ → List ℕ → List ℕ → Node → Layout
bracketed opening closing delimiter x = record (plain_layout (x ∷ [])) { prefix = Some opening; suffix = Some closing; delimiter = Some delimiter }

-- items without an indent, a line apart
abbrev pub plain_bibliography : Layout → Bibliography
plain_bibliography l = record {
  layout = l;
  name_options = open_options;
  hanging_indent = false;
  second_field_align = None;
  line_spacing = pos 1;
  entry_spacing = pos 1;
  substitute = None;
  substitute_rule = substitutes.CompleteAll;
  substitutes_names_alone = false;
}

-- a style of one category, without locales and macros of its own
abbrev pub style_of : StyleClass → StyleCategory → Citation → Option Bibliography → Style
style_of class category citation bibliography = record {
  class = class;
  categories = category ∷ [];
  default_locale = None;
  page_ranges = None;
  page_rule = page_rules.AsWritten;
  name_options = open_options;
  locales = [];
  macros = [];
  citation = citation;
  bibliography = bibliography;
  citation_sort = [];
  bibliography_sort = [];
}
