-- Names, without what is printed in their place.
use Rattle.std.specs.Prelude.{ℕ, Bool, true, false, ◌&&◌, List, if◌then◌else◌, is_some, Option, Some, None, unwrap_or, codes}
use Rattle.std.specs.List.{list_any}
use Rattle.std.specs.Option.{option_map}
use Rattle.xml_tree.specs.Trees.{Element, Content, Last, Next}
use Rattle.xml_schema.specs.Faults.{name_of}
use Rattle.rendering_taxonomy.specs.Variables.{is_name_variable}
use Rattle.rendering_taxonomy.specs.declared.name.EtAlTerm.TheVariants as terms
use Rattle.rendering_taxonomy.specs.declared.variable.NameVariable.{NameVariable}
use Rattle.rendering_taxonomy.specs.declared.variable.NameVariable.TheVariants as people
use Rattle.rendering_style.specs.Nodes.{NamePart, NameLook, EtAl, NamesNode}
use Rattle.csl_words.specs.Elements.{is_called, content_in, part_called}
use Rattle.csl_words.specs.Looking.{table, value_by, says, values_by}
use Rattle.csl_words.specs.Printing.{printed, printed_text}
use Rattle.csl_words.specs.declared.options.TheConstants.{ET_AL_TERMS}
use Rattle.csl_words.specs.declared.variables.TheConstants.{NAME_VARIABLES}
use Rattle.csl_nodes.specs.Looks.{formatting, text_case, look, label_look}
use Rattle.csl_nodes.specs.Options.{name_options}

-- what is specified for a part of single names
abbrev pub name_part : Element → NamePart
name_part e = record {
  formatting = formatting e;
  text_case = text_case e;
  prefix = printed_text (codes "prefix") e;
  suffix = printed_text (codes "suffix") e;
}

-- an element is for the part of that word, `given` or `family`
abbrev pub is_part : List ℕ → Element → Bool
is_part word e = is_called (codes "name-part") (name_of e) && says (codes "name") word e

-- the first element for that part
abbrev pub first_part : List ℕ → Content → Option Element
first_part word (Last t) = None
first_part word (Next t e c) = if is_part word e then Some e else first_part word c

-- what is specified for that part in an element
abbrev pub part_for : List ℕ → Element → Option NamePart
part_for word e = option_map name_part (first_part word (content_in e))

-- what is specified for single names
abbrev pub name_look : Element → NameLook
name_look e = record {
  options = name_options (codes "form") (codes "delimiter") e;
  formatting = formatting e;
  prefix = printed_text (codes "prefix") e;
  suffix = printed_text (codes "suffix") e;
  given = part_for (codes "given") e;
  family = part_for (codes "family") e;
}

-- the term for the names left out
abbrev pub et_al : Element → EtAl
et_al e = record { name = unwrap_or (value_by (table ET_AL_TERMS.now) (codes "term") e) terms.EtAl; formatting = formatting e }

-- the first of the elements for a label and for single names is one for a label
abbrev pub label_leads : Content → Bool
label_leads (Last t) = false
label_leads (Next t e c) = if is_called (codes "label") (name_of e) then true else (if is_called (codes "name") (name_of e) then false else label_leads c)

-- a label stands before the names where its element stands before that for single names; without the latter it stands after them
abbrev pub label_is_first : Element → Bool
label_is_first e = is_some (part_called (codes "name") e) && label_leads (content_in e)

-- editors and translators are asked for together
abbrev pub merges : List NameVariable → Bool
merges vs = list_any (is_name_variable people.Editor) vs && list_any (is_name_variable people.Translator) vs

abbrev pub names_node : Element → NamesNode
names_node e = record {
  variables = values_by (table NAME_VARIABLES.now) (codes "variable") e;
  name = option_map name_look (part_called (codes "name") e);
  et_al = option_map et_al (part_called (codes "et-al") e);
  label = option_map label_look (part_called (codes "label") e);
  label_is_first = label_is_first e;
  merges_editor_translator = merges (values_by (table NAME_VARIABLES.now) (codes "variable") e);
  delimiter = printed (codes "delimiter") e;
  look = look e;
}
