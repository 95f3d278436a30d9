-- What an element says of names: a name by `form` and `delimiter`, a style and what is printed by a layout by `name-form` and `name-delimiter`.
use Rattle.std.specs.Prelude.{ℕ, List, None, codes}
use Rattle.xml_tree.specs.Trees.{Element}
use Rattle.rendering_style.specs.Options.{NameOptions}
use Rattle.csl_words.specs.Looking.{table, value_by, is_set, number}
use Rattle.csl_words.specs.Printing.{printed}
use Rattle.csl_words.specs.declared.options.TheConstants.{ANDS, DELIMITERS, DEMOTES, NAME_FORMS, SORT_ORDERS}

-- Options of names by these attributes for the form and the delimiter. Whether particles are demoted and hyphens stay between initials is said
-- by a style alone, and what stands between the people of two variables by a style, a citation and a bibliography.
abbrev pub name_options : List ℕ → List ℕ → Element → NameOptions
name_options form delimiter e = record {
  and_term = value_by (table ANDS.now) (codes "and") e;
  delimiter = printed delimiter e;
  delimiter_precedes_last = value_by (table DELIMITERS.now) (codes "delimiter-precedes-last") e;
  et_al_min = number (codes "et-al-min") e;
  et_al_use_first = number (codes "et-al-use-first") e;
  et_al_subsequent_min = number (codes "et-al-subsequent-min") e;
  et_al_subsequent_use_first = number (codes "et-al-subsequent-use-first") e;
  et_al_use_last = is_set (codes "et-al-use-last") e;
  form = value_by (table NAME_FORMS.now) form e;
  initialize_with = printed (codes "initialize-with") e;
  name_as_sort_order = value_by (table SORT_ORDERS.now) (codes "name-as-sort-order") e;
  sort_separator = printed (codes "sort-separator") e;
  demote = value_by (table DEMOTES.now) (codes "demote-non-dropping-particle") e;
  delimiter_precedes_et_al = value_by (table DELIMITERS.now) (codes "delimiter-precedes-et-al") e;
  initialize = is_set (codes "initialize") e;
  initialize_with_hyphen = is_set (codes "initialize-with-hyphen") e;
  splits_initials = None;
  names_delimiter = printed (codes "names-delimiter") e;
}
