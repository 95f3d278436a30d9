-- The parts of styles without where they lie in memory. Names of macros and codes of languages are viewed as bytes, all other texts as
-- characters.
use Rattle.std.specs.Prelude.{List, [], ◌∷◌, map, string_bytes}
use Rattle.std.specs.Option.{option_map}
use Rattle.std.specs.Int.NonZero.{non_zero_i16_get}
use Rattle.laws.specs.Text.{characters}
use Rattle.rendering_locale.specs.CodeViews.{code_view}
use Rattle.rendering_taxonomy.specs.Views.{changes_view}
use Rattle.rendering_locale.specs.Views.{part_view, locale_view}
use Rattle.rendering_style.specs.Options as options
use Rattle.rendering_style.specs.Nodes as nodes
use Rattle.rendering_style.specs.Sorting as sorting
use Rattle.rendering_style.specs.Styles as styles
use Rattle.rendering_style.specs.declared.options.NameOptions.{NameOptions}
use Rattle.rendering_style.specs.declared.node.Look.{Look}
use Rattle.rendering_style.specs.declared.node.TextLook.{TextLook}
use Rattle.rendering_style.specs.declared.node.TextTarget.{TextTarget}
use Rattle.rendering_style.specs.declared.node.TextTarget.TheVariants as targets
use Rattle.rendering_style.specs.declared.node.Number.{Number}
use Rattle.rendering_style.specs.declared.node.LabelLook.{LabelLook}
use Rattle.rendering_style.specs.declared.node.DatePartChange.{DatePartChange}
use Rattle.rendering_style.specs.declared.node.Date.{Date}
use Rattle.rendering_style.specs.declared.node.Name.{Name}
use Rattle.rendering_style.specs.declared.node.NamePart.{NamePart}
use Rattle.rendering_style.specs.declared.node.EtAl.{EtAl}
use Rattle.rendering_style.specs.declared.node.Names.{Names}
use Rattle.rendering_style.specs.declared.node.Group.{Group}
use Rattle.rendering_style.specs.declared.node.ChooseTest.{ChooseTest}
use Rattle.rendering_style.specs.declared.node.ChooseTest.TheVariants as tests
use Rattle.rendering_style.specs.declared.node.Condition.{Condition}
use Rattle.rendering_style.specs.declared.node.ChooseBranch.{ChooseBranch}
use Rattle.rendering_style.specs.declared.node.Node.{Node, fold-Node}
use Rattle.rendering_style.specs.declared.node.Node.TheOpen.{Node-F, ChooseBranch-F}
use Rattle.rendering_style.specs.declared.parts.Layout.{Layout}
use Rattle.rendering_style.specs.declared.parts.Macro.{Macro}
use Rattle.rendering_style.specs.declared.parts.Citation.{Citation}
use Rattle.rendering_style.specs.declared.parts.Bibliography.{Bibliography}
use Rattle.rendering_style.specs.declared.parts.StyleParts.{StyleParts}
use Rattle.rendering_style.specs.declared.sort.SortKey.{SortKey}
use Rattle.rendering_style.specs.declared.sort.SortTarget.{SortTarget}
use Rattle.rendering_style.specs.declared.sort.SortTarget.TheVariants as sort_targets

-- what is specified for names
abbrev pub options_view : NameOptions → options.NameOptions
options_view o = record {
  and_term = o.and;
  delimiter = option_map characters o.delimiter;
  delimiter_precedes_last = o.delimiter_precedes_last;
  et_al_min = o.et_al_min;
  et_al_use_first = o.et_al_use_first;
  et_al_subsequent_min = o.et_al_subsequent_min;
  et_al_subsequent_use_first = o.et_al_subsequent_use_first;
  et_al_use_last = o.et_al_use_last;
  form = o.form;
  initialize_with = option_map characters o.initialize_with;
  name_as_sort_order = o.name_as_sort_order;
  sort_separator = option_map characters o.sort_separator;
  demote = o.demote_non_dropping_particle;
  delimiter_precedes_et_al = o.delimiter_precedes_et_al;
  initialize = o.initialize;
  initialize_with_hyphen = o.initialize_with_hyphen;
  splits_initials = o.splits_initials;
  names_delimiter = option_map characters o.names_delimiter;
}

-- a look
abbrev pub look_view : Look → nodes.Look
look_view l = record { formatting = changes_view l.formatting; prefix = characters l.prefix; suffix = characters l.suffix; display = l.display }

-- the look of a text
abbrev pub text_look_view : TextLook → nodes.TextLook
text_look_view l = record { look = look_view l.look; quotes = l.quotes; strips_periods = l.strip_periods; text_case = l.text_case }

-- a text by what it prints
abbrev pub text_node_view : TextTarget → nodes.TextLook → nodes.Node
text_node_view (targets.Variable v form) look = nodes.leaf (nodes.text (nodes.of_variable v form) look)
text_node_view (targets.Macro name) look = nodes.call (string_bytes name) look
text_node_view (targets.Term t form plural) look = nodes.leaf (nodes.text (nodes.of_term t form plural) look)
text_node_view (targets.Value s) look = nodes.leaf (nodes.text (nodes.of_value (characters s)) look)

-- a number
abbrev pub number_node_view : Number → nodes.NumberNode
number_node_view n = record { variable = n.variable; form = n.form; text_case = n.text_case; look = look_view n.look }

-- the look of a label
abbrev pub label_look_view : LabelLook → nodes.LabelLook
label_look_view l = record { form = l.form; plural = l.plural; strips_periods = l.strip_periods; text_case = l.text_case; look = look_view l.look }

-- what changes of a part of a date
abbrev pub part_change_view : DatePartChange → nodes.DatePartChange
part_change_view c = record {
  part = c.part;
  strips_periods = c.strip_periods;
  text_case = c.text_case;
  formatting = changes_view c.formatting;
  range_delimiter = option_map characters c.range_delimiter;
}

-- a date
abbrev pub date_node_view : Date → nodes.DateNode
date_node_view d = record {
  variable = d.variable;
  form = d.form;
  parts = d.parts;
  own_parts = map part_view d.own_parts.items;
  part_changes = map part_change_view d.part_changes.items;
  delimiter = option_map characters d.delimiter;
  text_case = d.text_case;
  merges_ranges = d.merges_ranges;
  look = look_view d.look;
}

-- what is specified for a part of single names
abbrev pub name_part_view : NamePart → nodes.NamePart
name_part_view p = record { formatting = changes_view p.formatting; text_case = p.text_case; prefix = characters p.prefix; suffix = characters p.suffix }

-- what is specified for single names
abbrev pub name_look_view : Name → nodes.NameLook
name_look_view n = record {
  options = options_view n.options;
  formatting = changes_view n.formatting;
  prefix = characters n.prefix;
  suffix = characters n.suffix;
  given = option_map name_part_view n.given;
  family = option_map name_part_view n.family;
}

-- the term for those left out
abbrev pub et_al_view : EtAl → nodes.EtAl
et_al_view e = record { name = e.term; formatting = changes_view e.formatting }

-- names
abbrev pub names_node_view : Names → nodes.NamesNode
names_node_view n = record {
  variables = n.variables.items;
  name = option_map name_look_view n.name;
  et_al = option_map et_al_view n.et_al;
  label = option_map label_look_view n.label;
  label_is_first = n.label_is_first;
  merges_editor_translator = n.merges_editor_translator;
  delimiter = option_map characters n.delimiter;
  look = look_view n.look;
}

-- a group
abbrev pub group_node_view : Group → nodes.GroupNode
group_node_view g = record { delimiter = option_map characters g.delimiter; look = look_view g.look }

-- a test
abbrev pub test_view : ChooseTest → nodes.Test
test_view (tests.Type k) = nodes.is_of_kind k
test_view (tests.Variable v) = nodes.has_answer v
test_view (tests.IsNumeric v) = nodes.is_numeric v
test_view (tests.IsUncertainDate v) = nodes.is_uncertain v
test_view (tests.Locator l) = nodes.has_locator l
test_view (tests.Position p) = nodes.stands_at p
test_view tests.Disambiguate = nodes.is_alike

-- tests, and how many of them have to hold
abbrev pub condition_view : Condition → nodes.Condition
condition_view c = record { required = c.required; tests = map test_view c.tests.items }

-- a branch: its condition and its nodes
abbrev pub Branch : Type 0
Branch = nodes.Condition × nodes.Nodes

-- branches one after the other, and the nodes after them
abbrev pub branches_of : List Branch → nodes.Nodes → nodes.Branches
branches_of [] xs = nodes.otherwise xs
branches_of (b ∷ bs) xs = nodes.branch b.0 b.1 (branches_of bs xs)

-- one node, with those in it already viewed
abbrev pub node_step : Node-F nodes.Node Branch → nodes.Node
node_step (Node-F.Text t) = text_node_view t.target (text_look_view t.look)
node_step (Node-F.Number n) = nodes.leaf (nodes.number (number_node_view n))
node_step (Node-F.Label l) = nodes.leaf (nodes.label l.variable (label_look_view l.label))
node_step (Node-F.Date d) = nodes.leaf (nodes.date (date_node_view d))
node_step (Node-F.Names n xs) = nodes.names (names_node_view n) (nodes.nodes_of xs.items)
node_step (Node-F.Choose bs xs) = nodes.choose (branches_of bs.items (nodes.nodes_of xs.items))
node_step (Node-F.Group g xs) = nodes.group (group_node_view g) (nodes.nodes_of xs.items)

-- one branch
abbrev pub branch_step : ChooseBranch-F nodes.Node Branch → Branch
branch_step b = (condition_view b.condition, nodes.nodes_of b.children.items)

-- a node
abbrev pub node_view : Node → nodes.Node
node_view = fold-Node nodes.Node Branch node_step branch_step

-- nodes one after the other
abbrev pub nodes_view : List Node → nodes.Nodes
nodes_view xs = nodes.nodes_of (map node_view xs)

-- a branch
abbrev pub branch_view : ChooseBranch → Branch
branch_view b = (condition_view b.condition, nodes_view b.children.items)

-- a layout
abbrev pub layout_view : Layout → styles.Layout
layout_view l = record {
  nodes = map node_view l.nodes.items;
  formatting = changes_view l.formatting;
  prefix = option_map characters l.prefix;
  suffix = option_map characters l.suffix;
  delimiter = option_map characters l.delimiter;
}

-- a macro
abbrev pub macro_view : Macro → styles.Macro
macro_view m = record { name = string_bytes m.name; nodes = map node_view m.nodes.items }

-- what the key of an item is
abbrev pub sort_target_view : SortTarget → sorting.SortTarget
sort_target_view (sort_targets.Variable v) = sorting.by_variable v
sort_target_view (sort_targets.Macro name) = sorting.by_macro (string_bytes name)

-- a key
abbrev pub sort_key_view : SortKey → sorting.SortKey
sort_key_view k = record {
  target = sort_target_view k.target;
  direction = k.direction;
  names_min = k.names_min;
  names_use_first = k.names_use_first;
  names_use_last = k.names_use_last;
}

-- what is specified for citations
abbrev pub citation_layout_view : Citation → styles.Citation
citation_layout_view c = record {
  layout = layout_view c.layout;
  name_options = options_view c.name_options;
  add_names = c.add_names;
  add_givenname = c.add_givenname;
  givenname_rule = c.givenname_rule;
  add_year_suffix = c.add_year_suffix;
  collapse = c.collapse;
  cite_group_delimiter = option_map characters c.cite_group_delimiter;
  after_collapse_delimiter = option_map characters c.after_collapse_delimiter;
  year_suffix_delimiter = option_map characters c.year_suffix_delimiter;
  near_note_distance = c.near_note_distance;
  first_chooses_too = c.first_chooses_too;
  ibid_after_one = c.ibid_after_one;
  same_entry_is_no_rival = c.same_entry_is_no_rival;
  suffixes_by_number = c.suffixes_by_number;
  raises_names_first = c.raises_names_first;
  gathers_by_text = c.gathers_by_text;
  locators_end_runs = c.locators_end_runs;
  repeats_no_years = c.repeats_no_years;
}

-- what is specified for the bibliography
abbrev pub bibliography_layout_view : Bibliography → styles.Bibliography
bibliography_layout_view b = record {
  layout = layout_view b.layout;
  name_options = options_view b.name_options;
  hanging_indent = b.hanging_indent;
  second_field_align = b.second_field_align;
  line_spacing = non_zero_i16_get b.line_spacing;
  entry_spacing = b.entry_spacing;
  substitute = option_map characters b.subsequent_author_substitute;
  substitute_rule = b.subsequent_author_substitute_rule;
  substitutes_names_alone = b.substitutes_names_alone;
}

-- the parts of a style
abbrev pub style_parts_view : StyleParts → styles.Style
style_parts_view p = record {
  class = p.class;
  categories = p.categories.items;
  default_locale = option_map code_view p.default_locale;
  page_ranges = p.page_ranges;
  page_rule = p.page_rule;
  name_options = options_view p.name_options;
  locales = map locale_view p.locales.items;
  macros = map macro_view p.macros.items;
  citation = citation_layout_view p.citation;
  bibliography = option_map bibliography_layout_view p.bibliography;
  citation_sort = map sort_key_view p.citation_sort.items;
  bibliography_sort = map sort_key_view p.bibliography_sort.items;
}

-- the macros among them
abbrev pub macros_view : StyleParts → List styles.Macro
macros_view p = map macro_view p.macros.items
