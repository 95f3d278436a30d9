-- What nodes print to be sorted by.
use Rattle.std.specs.Prelude.{ℕ, Bool, true, false, List, Option, Some, None}
use Rattle.std.specs.Option.{option_and_then, unwrap_or}
use Rattle.rendering_context.specs.Contexts.{Context}
use Rattle.rendering_leaves.specs.NodeSettings.{NodeSetting, begun, whole}
use Rattle.rendering_names.specs.Around.{NamesAround}
use Rattle.rendering_nodes.specs.Content.{contents}
use Rattle.rendering_page.specs.PageCharacters.{page_text, plain_manner}
use Rattle.rendering_style.specs.Nodes.{Nodes}
use Rattle.rendering_style.specs.Opening.{each_node, limit, macro_named, open_node}
use Rattle.rendering_style.specs.Options.{NameOptions, open_options}
use Rattle.rendering_style.specs.Sorting.{SortKey, SortTarget, by_variable, by_macro}
use Rattle.rendering_style.specs.Styles.{Style}
use Rattle.rendering_taxonomy.specs.declared.name.NameAsSortOrder.TheVariants as inversions
use Rattle.rendering_sorting.specs.Keys.{Value}
use Rattle.rendering_sorting.specs.Values.{of_text, value_of_variable}

-- what a key says of names, whatever their nodes say: all are inverted, and so many are left out as it says
abbrev pub own_options : SortKey → NameOptions
own_options k = record open_options {
  et_al_min = k.names_min;
  et_al_use_first = k.names_use_first;
  et_al_use_last = k.names_use_last;
  name_as_sort_order = Some inversions.All;
}

-- what is said of names around the nodes of a key: what it says overrides them, and what it inherits of a layout counts where nothing else
-- is said
abbrev pub key_options : NameOptions → SortKey → NamesAround
key_options inherited k = record { overriding = own_options k; options = inherited }

-- what is handed down to the nodes of a key
abbrev pub key_setting : NameOptions → SortKey → NodeSetting
key_setting inherited k = record {
  manner = plain_manner;
  inside_quotes = false;
  delimiter = None;
  options = key_options inherited k;
  in_substitute = false;
  form = whole;
  outer_names = None;
}

-- the characters that nodes print whose macros are opened
abbrev pub printed_text : Context → NodeSetting → Nodes → List ℕ
printed_text c setting xs = page_text (contents c setting true xs begun).page.tokens

-- whether the particle of a name goes behind the family name: unless it is said that it does not
abbrev pub goes_behind : NameOptions → Bool
goes_behind options = unwrap_or options.demote true

-- the value of a key: of the answer to its variable, or of what its macro prints
abbrev pub target_value : Context → Style → NodeSetting → SortTarget → Option Value
target_value c s setting (by_variable v) = value_of_variable c (goes_behind setting.options.options) v
target_value c s setting (by_macro name) =
    option_and_then (λ xs. of_text (printed_text c setting (each_node (open_node limit s.macros) xs)))
    (macro_named s.macros name)

abbrev pub key_value : Context → Style → NameOptions → SortKey → Option Value
key_value c s inherited k = target_value c s (key_setting inherited k) k.target
