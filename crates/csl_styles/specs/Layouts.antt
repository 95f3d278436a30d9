-- What layouts and sort keys mean.
use Rattle.std.specs.Prelude.{ℕ, List, [], map, codes, Option, None, option_and_then, unwrap_or}
use Rattle.std.specs.Option.{option_map_or}
use Rattle.laws.specs.Text.{text}
use Rattle.xml_tree.specs.Trees.{Element}
use Rattle.rendering_taxonomy.specs.Formats.{unchanged}
use Rattle.rendering_taxonomy.specs.declared.style.SortDirection.TheVariants as directions
use Rattle.rendering_taxonomy.specs.declared.variable.Variable.{Variable}
use Rattle.rendering_style.specs.Sorting.{SortTarget, by_variable, by_macro, SortKey}
use Rattle.rendering_style.specs.Styles.{Layout}
use Rattle.csl_words.specs.Looking.{table, attribute, value_by, text_of, is_set, number}
use Rattle.csl_words.specs.Printing.{printed}
use Rattle.csl_words.specs.declared.options.TheConstants.{SORT_DIRECTIONS}
use Rattle.csl_words.specs.Elements.{content_in, part_called}
use Rattle.csl_locales.specs.Called.{called}
use Rattle.csl_nodes.specs.Looks.{formatting}
use Rattle.csl_nodes.specs.Nodes.{nodes_in}
use Rattle.csl_nodes.specs.Terms.{variable_of}

-- a layout
abbrev pub layout : List (List ℕ) → Element → Layout
layout words e = record {
  nodes = nodes_in words (content_in e);
  formatting = formatting e;
  prefix = printed (codes "prefix") e;
  suffix = printed (codes "suffix") e;
  delimiter = printed (codes "delimiter") e;
}

-- what prints nothing
abbrev pub empty_layout : Layout
empty_layout = record { nodes = []; formatting = unchanged; prefix = None; suffix = None; delimiter = None }

-- the layout of a citation or of a bibliography
abbrev pub layout_in : List (List ℕ) → Element → Layout
layout_in words e = option_map_or (layout words) (part_called (codes "layout") e) empty_layout

-- the variable that a key names
abbrev pub key_variable : Element → Option Variable
key_variable e = option_and_then (λ (t : List ℕ). variable_of (text t)) (attribute (codes "variable") e)

-- what a key is: the answer to a variable, or else what a macro prints, whose name is bytes
abbrev pub sort_target : Element → SortTarget
sort_target e = option_map_or by_variable (key_variable e) (by_macro (text (text_of (codes "macro") e)))

abbrev pub sort_key : Element → SortKey
sort_key e = record {
  target = sort_target e;
  direction = unwrap_or (value_by (table SORT_DIRECTIONS.now) (codes "sort") e) directions.Ascending;
  names_min = number (codes "names-min") e;
  names_use_first = number (codes "names-use-first") e;
  names_use_last = is_set (codes "names-use-last") e;
}

-- the keys of a citation or of a bibliography
abbrev pub sort_keys : Element → List SortKey
sort_keys e = option_map_or (λ (s : Element). map sort_key (called (codes "key") s)) (part_called (codes "sort") e) []
