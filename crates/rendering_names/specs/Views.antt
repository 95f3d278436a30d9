-- The code's values without where they lie in memory.
use Rattle.std.specs.Prelude.{List, zip, Option}
use Rattle.std.specs.Borrow.{Bor}
use Rattle.std.specs.List.{enumerate_from}
use Rattle.std.specs.Option.{option_map, unwrap_or}
use Rattle.std.specs.declared.borrow.Cow.{Cow}
use Rattle.laws.specs.Text.{spelled}
use Rattle.literature_values.specs.declared.person.Person.{Person}
use Rattle.rendering_people.specs.Properties.{VariableProperties}
use Rattle.rendering_people.specs.Views.{lent_answered_view, lent_people_view}
use Rattle.rendering_people.specs.declared.people.Answered.{Answered}
use Rattle.rendering_people.specs.declared.properties.PeopleCount.{PeopleCount}
use Rattle.rendering_page.specs.Pages.{Page}
use Rattle.rendering_page.specs.Pieces.{Piece, append_pieces}
use Rattle.rendering_page.specs.Views.{quotes_view, manner_view}
use Rattle.rendering_style.specs.Nodes as nodes
use Rattle.rendering_style.specs.Options.{NameOptions, open_options}
use Rattle.rendering_style.specs.Views.{name_look_view, name_part_view, et_al_view, label_look_view, look_view}
use Rattle.rendering_style.specs.declared.node.EtAl.{EtAl}
use Rattle.rendering_style.specs.declared.node.Name.{Name}
use Rattle.rendering_style.specs.declared.node.NamePart.{NamePart}
use Rattle.rendering_names.specs.Around as arounds
use Rattle.rendering_names.specs.NameParts as parts
use Rattle.rendering_names.specs.Names as names
use Rattle.rendering_names.specs.Names.{IndexedPerson, no_look, plain_et_al}
use Rattle.rendering_names.specs.declared.around.NamesAround.{NamesAround}
use Rattle.rendering_names.specs.declared.around.OverridingOptions.{OverridingOptions}
use Rattle.rendering_names.specs.declared.name_parts.Word.{Word}
use Rattle.rendering_names.specs.declared.options.ResolvedNameOptions.{ResolvedNameOptions}
use Rattle.rendering_names.specs.declared.parts.NamesParts.{NamesParts}
use Rattle.rendering_names.specs.declared.style.NameStyle.{NameStyle}
use Rattle.rendering_taxonomy.specs.declared.name.DisambiguatedNameForm.{DisambiguatedNameForm}
use Rattle.rendering_tree.specs.Metas as metas

-- what is specified for names
abbrev pub resolved_options_view : ResolvedNameOptions → NameOptions
resolved_options_view o = record {
  and_term = o.and;
  delimiter = option_map spelled o.delimiter;
  delimiter_precedes_last = o.delimiter_precedes_last;
  et_al_min = o.et_al_min;
  et_al_use_first = o.et_al_use_first;
  et_al_subsequent_min = o.et_al_subsequent_min;
  et_al_subsequent_use_first = o.et_al_subsequent_use_first;
  et_al_use_last = o.et_al_use_last;
  form = o.form;
  initialize_with = option_map spelled o.initialize_with;
  name_as_sort_order = o.name_as_sort_order;
  sort_separator = option_map spelled o.sort_separator;
  demote = o.demote_non_dropping_particle;
  delimiter_precedes_et_al = o.delimiter_precedes_et_al;
  initialize = o.initialize;
  initialize_with_hyphen = o.initialize_with_hyphen;
  splits_initials = o.splits_initials;
  names_delimiter = option_map spelled o.names_delimiter;
}

-- what counts whatever a node says of names
abbrev pub overriding_view : OverridingOptions → NameOptions
overriding_view o = record open_options {
  et_al_min = o.et_al_min;
  et_al_use_first = o.et_al_use_first;
  et_al_use_last = o.et_al_use_last;
  name_as_sort_order = o.name_as_sort_order;
}

-- what is said of names around their node
abbrev pub names_around_view : NamesAround → arounds.NamesAround
names_around_view a = record {
  overriding = overriding_view a.overriding;
  options = resolved_options_view a.options;
}

-- what is specified for single names, where something is
abbrev pub lent_name_view : Option (Bor Name) → Option nodes.NameLook
lent_name_view n = option_map (λ b. name_look_view b.now) n

-- what is specified for a part of single names, where something is
abbrev pub lent_part_view : Option (Bor NamePart) → Option nodes.NamePart
lent_part_view p = option_map (λ b. name_part_view b.now) p

-- a word of a name
abbrev pub word_view : Word → parts.Word
word_view w = record {
  before = spelled w.before;
  prefix = spelled w.prefix;
  suffix = spelled w.suffix;
  part = lent_part_view w.part;
  text = spelled w.text;
}

-- the term for those left out, where something is specified for it
abbrev pub lent_et_al_view : Option (Bor EtAl) → Option nodes.EtAl
lent_et_al_view e = option_map (λ b. et_al_view b.now) e

-- a names node
abbrev pub names_parts_view : NamesParts → nodes.NamesNode
names_parts_view n = record {
  variables = n.variables.now;
  name = lent_name_view n.name;
  et_al = lent_et_al_view n.et_al;
  label = option_map (λ b. label_look_view b.now) n.label;
  label_is_first = n.label_is_first;
  merges_editor_translator = n.merges_editor_translator;
  delimiter = option_map spelled n.delimiter;
  look = record (look_view n.look.now) { prefix = spelled n.prefix; suffix = spelled n.suffix };
}

-- the people of a variable, with what is to be printed of them
abbrev pub counted_view : PeopleCount → List DisambiguatedNameForm → Answered →
    VariableProperties × metas.Answered
counted_view c fs a =
    (record { variable = c.variable; forms = fs; shown = c.shown }, lent_answered_view a)

-- people with their forms under their indices
abbrev pub indexed : List DisambiguatedNameForm → List (Cow Person) → List IndexedPerson
indexed fs ps = enumerate_from 0 (zip fs (lent_people_view ps))

-- how names stand
abbrev pub name_style_view : NameStyle → names.NameStyle
name_style_view s = record {
  locales = s.setting.locales.now;
  manner = manner_view s.setting.manner;
  look = unwrap_or (lent_name_view s.name) no_look;
  et_al = unwrap_or (lent_et_al_view s.et_al) plain_et_al;
  options = resolved_options_view s.options;
}

-- the page after these pieces were appended
abbrev pub append_here : NameStyle → List Piece → Page → Page
append_here s ps p = append_pieces (quotes_view s.setting.quotes.now) ps p
