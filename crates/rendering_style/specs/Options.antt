-- What a style says of names. Each option may be left open.
use Rattle.std.specs.Prelude.{ℕ, Bool, List, Option, None}
use Rattle.std.specs.Option.{option_or}
use Rattle.rendering_taxonomy.specs.declared.name.NameAnd.{NameAnd}
use Rattle.rendering_taxonomy.specs.declared.name.DelimiterBehavior.{DelimiterBehavior}
use Rattle.rendering_taxonomy.specs.declared.name.NameForm.{NameForm}
use Rattle.rendering_taxonomy.specs.declared.name.NameAsSortOrder.{NameAsSortOrder}

-- Whether and what stands before the last name; what stands between names, and whether it stands before the last; from how many
-- names on so many of them are shown, in the first and in subsequent cites, and whether the last is shown too; the form; what
-- stands after initials; which names are inverted, and what stands in them after the family name; whether the particle of a
-- family name goes after the given name; whether the delimiter stands before the term for those left out; whether whole given names are
-- cut to initials, and hyphens stay between these; what stands between the people of two variables.
pub record NameOptions : Type 0 where
  pub and_term : Option NameAnd
  pub delimiter : Option (List ℕ)
  pub delimiter_precedes_last : Option DelimiterBehavior
  pub et_al_min : Option ℕ
  pub et_al_use_first : Option ℕ
  pub et_al_subsequent_min : Option ℕ
  pub et_al_subsequent_use_first : Option ℕ
  pub et_al_use_last : Option Bool
  pub form : Option NameForm
  pub initialize_with : Option (List ℕ)
  pub name_as_sort_order : Option NameAsSortOrder
  pub sort_separator : Option (List ℕ)
  pub demote : Option Bool
  pub delimiter_precedes_et_al : Option DelimiterBehavior
  pub initialize : Option Bool
  pub initialize_with_hyphen : Option Bool
  pub splits_initials : Option Bool
  pub names_delimiter : Option (List ℕ)

-- all is left open
abbrev pub open_options : NameOptions
open_options = record {
  and_term = None;
  delimiter = None;
  delimiter_precedes_last = None;
  et_al_min = None;
  et_al_use_first = None;
  et_al_subsequent_min = None;
  et_al_subsequent_use_first = None;
  et_al_use_last = None;
  form = None;
  initialize_with = None;
  name_as_sort_order = None;
  sort_separator = None;
  demote = None;
  delimiter_precedes_et_al = None;
  initialize = None;
  initialize_with_hyphen = None;
  splits_initials = None;
  names_delimiter = None;
}

-- each option of the first, or else of the second
abbrev pub options_over : NameOptions → NameOptions → NameOptions
options_over o p = record {
  and_term = option_or o.and_term p.and_term;
  delimiter = option_or o.delimiter p.delimiter;
  delimiter_precedes_last = option_or o.delimiter_precedes_last p.delimiter_precedes_last;
  et_al_min = option_or o.et_al_min p.et_al_min;
  et_al_use_first = option_or o.et_al_use_first p.et_al_use_first;
  et_al_subsequent_min = option_or o.et_al_subsequent_min p.et_al_subsequent_min;
  et_al_subsequent_use_first = option_or o.et_al_subsequent_use_first p.et_al_subsequent_use_first;
  et_al_use_last = option_or o.et_al_use_last p.et_al_use_last;
  form = option_or o.form p.form;
  initialize_with = option_or o.initialize_with p.initialize_with;
  name_as_sort_order = option_or o.name_as_sort_order p.name_as_sort_order;
  sort_separator = option_or o.sort_separator p.sort_separator;
  demote = option_or o.demote p.demote;
  delimiter_precedes_et_al = option_or o.delimiter_precedes_et_al p.delimiter_precedes_et_al;
  initialize = option_or o.initialize p.initialize;
  initialize_with_hyphen = option_or o.initialize_with_hyphen p.initialize_with_hyphen;
  splits_initials = option_or o.splits_initials p.splits_initials;
  names_delimiter = option_or o.names_delimiter p.names_delimiter;
}
