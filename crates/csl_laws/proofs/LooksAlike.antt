-- How elements look that say the same, and what they print that have no nodes in them.
use Rattle.std.proofs.Common.{◌≡◌, ℕ, Bool, true, false, cond, ◌&&◌, List, [], Option, Some, None, option_map, is_some, codes, true≢false, refl, sym, ◌∙◌}
use Rattle.std.specs.List.{cons_option}
use Rattle.std.specs.Option.{unwrap_or}
use Rattle.laws.specs.Text.{text}
use Rattle.xml_tree.specs.Trees.{Element, Tagged, Content, Last, Next}
use Rattle.rendering_style.specs.Nodes as nodes
use Rattle.rendering_style.specs.Nodes.{Test, is_alike, TextSource, of_variable, of_term, of_value, leaf, number, label, date, Node, call}
use Rattle.rendering_style.specs.declared.node.ChangedDatePart.TheVariants as changed
use Rattle.rendering_taxonomy.specs.declared.date.DatePartForm.{DatePartForm}
use Rattle.rendering_taxonomy.specs.declared.date.DatePartForm.TheVariants as parts
use Rattle.rendering_taxonomy.specs.declared.date.DateParts.TheVariants as cuts
use Rattle.rendering_taxonomy.specs.declared.date.LongShortForm.TheVariants as lengths
use Rattle.rendering_taxonomy.specs.declared.name.EtAlTerm.TheVariants as terms
use Rattle.rendering_taxonomy.specs.declared.number.LabelPluralize.TheVariants as plurals
use Rattle.rendering_taxonomy.specs.declared.number.NumberForm.TheVariants as numbers
use Rattle.rendering_taxonomy.specs.declared.term.TermForm.TheVariants as forms
use Rattle.rendering_taxonomy.specs.declared.variable.DateVariable.{DateVariable}
use Rattle.rendering_taxonomy.specs.declared.variable.Variable.{Variable}
use Rattle.csl_words.specs.Elements.{is_called, content_in, part_called}
use Rattle.csl_words.specs.Looking.{table, attribute}
use Rattle.csl_words.specs.declared.options.TheConstants.{ALIGNMENTS, ANDS, DATE_FORMS, DATE_PART_NAMES, DATE_PARTS, DAY_FORMS, DECORATIONS, DELIMITERS, DEMOTES, DISPLAYS, ET_AL_TERMS, FONT_STYLES, FONT_VARIANTS, FONT_WEIGHTS, LENGTHS, MONTH_FORMS, NAME_FORMS, NUMBER_FORMS, PLURALS, SORT_ORDERS, TEXT_CASES}
use Rattle.csl_words.specs.declared.terms.TheConstants.{TERM_FORMS}
use Rattle.csl_words.specs.declared.variables.TheConstants.{DATE_VARIABLES, NAME_VARIABLES, NUMBER_VARIABLES}
use Rattle.csl_nodes.specs.Conditions.{condition}
use Rattle.csl_nodes.specs.Dates.{in_form, part_of, named_part, date_part, date_parts, changed_in, change_of, part_change, part_changes}
use Rattle.csl_nodes.specs.Leaves.{answered, text_of_source, variable_text, text_by, text_node, number_of, number_node, label_node, date_form, date_of, date_node}
use Rattle.csl_nodes.specs.Looks.{formatting, text_case, look, text_look, term_form, label_look}
use Rattle.csl_nodes.specs.Names.{name_part, is_part, first_part, part_for, name_look, et_al, label_leads, merges, names_node}
use Rattle.csl_nodes.specs.Nodes.{group_node}
use Rattle.csl_nodes.specs.Options.{name_options}
use Rattle.csl_nodes.specs.Terms.{printed_variable, term_of}
use Rattle.csl_laws.specs.Alike.{AreAlikeInside}
use Rattle.csl_laws.specs.Trees.{text_counts, Alike}
use Rattle.csl_laws.proofs.Said.{SaySame, alike_said, names_same, value_same, printed_same, printed_text_same, says_same, set_same, true_same, number_same, values_same, part_found, mapped_same, some_found}

module _ (x y : Element) (h : SaySame x y) where
  pub formatting_same : formatting x ≡ formatting y
  formatting_same = λ j. record {
    font_style = value_same x y h (table FONT_STYLES.now) (codes "font-style") j;
    font_variant = value_same x y h (table FONT_VARIANTS.now) (codes "font-variant") j;
    font_weight = value_same x y h (table FONT_WEIGHTS.now) (codes "font-weight") j;
    text_decoration = value_same x y h (table DECORATIONS.now) (codes "text-decoration") j;
    vertical_align = value_same x y h (table ALIGNMENTS.now) (codes "vertical-align") j;
  }

  pub case_same : text_case x ≡ text_case y
  case_same = value_same x y h (table TEXT_CASES.now) (codes "text-case")

  pub look_same : look x ≡ look y
  look_same = λ j. record {
    formatting = formatting_same j;
    prefix = printed_text_same x y h (codes "prefix") j;
    suffix = printed_text_same x y h (codes "suffix") j;
    display = value_same x y h (table DISPLAYS.now) (codes "display") j;
  }

  pub text_look_same : text_look x ≡ text_look y
  text_look_same = λ j. record {
    look = look_same j;
    quotes = true_same x y h (codes "quotes") j;
    strips_periods = true_same x y h (codes "strip-periods") j;
    text_case = case_same j;
  }

  pub term_form_same : term_form x ≡ term_form y
  term_form_same = λ j. unwrap_or (value_same x y h (table TERM_FORMS.now) (codes "form") j) forms.Long

  pub label_look_same : label_look x ≡ label_look y
  label_look_same = λ j. record {
    form = term_form_same j;
    plural = unwrap_or (value_same x y h (table PLURALS.now) (codes "plural") j) plurals.Contextual;
    strips_periods = true_same x y h (codes "strip-periods") j;
    text_case = case_same j;
    look = look_same j;
  }

  pub options_same : (form delimiter : List ℕ) → name_options form delimiter x ≡ name_options form delimiter y
  options_same form delimiter = λ j. record {
    and_term = value_same x y h (table ANDS.now) (codes "and") j;
    delimiter = printed_same x y h delimiter j;
    delimiter_precedes_last = value_same x y h (table DELIMITERS.now) (codes "delimiter-precedes-last") j;
    et_al_min = number_same x y h (codes "et-al-min") j;
    et_al_use_first = number_same x y h (codes "et-al-use-first") j;
    et_al_subsequent_min = number_same x y h (codes "et-al-subsequent-min") j;
    et_al_subsequent_use_first = number_same x y h (codes "et-al-subsequent-use-first") j;
    et_al_use_last = set_same x y h (codes "et-al-use-last") j;
    form = value_same x y h (table NAME_FORMS.now) form j;
    initialize_with = printed_same x y h (codes "initialize-with") j;
    name_as_sort_order = value_same x y h (table SORT_ORDERS.now) (codes "name-as-sort-order") j;
    sort_separator = printed_same x y h (codes "sort-separator") j;
    demote = value_same x y h (table DEMOTES.now) (codes "demote-non-dropping-particle") j;
    delimiter_precedes_et_al = value_same x y h (table DELIMITERS.now) (codes "delimiter-precedes-et-al") j;
    initialize = set_same x y h (codes "initialize") j;
    initialize_with_hyphen = set_same x y h (codes "initialize-with-hyphen") j;
    splits_initials = None;
    names_delimiter = printed_same x y h (codes "names-delimiter") j;
  }

  pub group_same : group_node x ≡ group_node y
  group_same = λ j. record { delimiter = printed_same x y h (codes "delimiter") j; look = look_same j }

  -- parts of dates
  in_form_same : (form : DatePartForm) → in_form x form ≡ in_form y form
  in_form_same (parts.Day form) = λ j. parts.Day (unwrap_or (value_same x y h (table DAY_FORMS.now) (codes "form") j) form)
  in_form_same (parts.Month form) = λ j. parts.Month (unwrap_or (value_same x y h (table MONTH_FORMS.now) (codes "form") j) form)
  in_form_same (parts.Year form) = λ j. parts.Year (unwrap_or (value_same x y h (table LENGTHS.now) (codes "form") j) form)

  changed_same : (form : DatePartForm) → changed_in x form ≡ changed_in y form
  changed_same (parts.Day form) = λ j. changed.Day (value_same x y h (table DAY_FORMS.now) (codes "form") j)
  changed_same (parts.Month form) = λ j. changed.Month (value_same x y h (table MONTH_FORMS.now) (codes "form") j)
  changed_same (parts.Year form) = λ j. changed.Year (value_same x y h (table LENGTHS.now) (codes "form") j)

  pub change_same : (form : DatePartForm) → change_of x form ≡ change_of y form
  change_same form = λ j. record {
    part = changed_same form j;
    strips_periods = set_same x y h (codes "strip-periods") j;
    text_case = case_same j;
    formatting = formatting_same j;
    range_delimiter = printed_same x y h (codes "range-delimiter") j;
  }

  pub part_same : (form : DatePartForm) → part_of x form ≡ part_of y form
  part_same form = λ j. record {
    form = in_form_same form j;
    strips_periods = true_same x y h (codes "strip-periods") j;
    text_case = case_same j;
    formatting = formatting_same j;
    prefix = printed_text_same x y h (codes "prefix") j;
    suffix = printed_text_same x y h (codes "suffix") j;
    range_delimiter = printed_same x y h (codes "range-delimiter") j;
  }

  -- texts
  source_same : (source : TextSource) → text_of_source x source ≡ text_of_source y source
  source_same source = λ j. leaf (nodes.text source (text_look_same j))

  variable_text_same : (v : Variable) → variable_text x v ≡ variable_text y v
  variable_text_same v = λ j. answered v (leaf (nodes.text (of_variable v (unwrap_or (value_same x y h (table LENGTHS.now) (codes "form") j) lengths.Long)) (text_look_same j)))

  text_by_same : (words : List (List ℕ)) (v m t : Option (List ℕ)) → text_by words x v m t ≡ text_by words y v m t
  text_by_same words (Some v) m t = λ j. option_map (λ (k : Variable). variable_text_same k j) (printed_variable (text v))
  text_by_same words None (Some m) t = λ j. Some (call (text m) (text_look_same j))
  text_by_same words None None (Some t) = λ j. Some (leaf (nodes.text (of_term (term_of words (text t)) (term_form_same j) (true_same x y h (codes "plural") j)) (text_look_same j)))
  text_by_same words None None None = λ j. Some (leaf (nodes.text (of_value (printed_text_same x y h (codes "value") j)) (text_look_same j)))

  pub text_node_same : (words : List (List ℕ)) → text_node words x ≡ text_node words y
  text_node_same words =
      (λ j. text_by words x (h (codes "variable") j) (h (codes "macro") j) (h (codes "term") j))
      ∙ text_by_same words (attribute (codes "variable") y) (attribute (codes "macro") y) (attribute (codes "term") y)

  -- numbers and labels
  number_of_same : (v : Variable) → number_of x v ≡ number_of y v
  number_of_same v = λ j. record {
    variable = v;
    form = unwrap_or (value_same x y h (table NUMBER_FORMS.now) (codes "form") j) numbers.Numeric;
    text_case = case_same j;
    look = look_same j;
  }

  pub number_node_same : number_node x ≡ number_node y
  number_node_same = λ j. option_map (λ (v : Variable). leaf (number (number_of_same v j))) (value_same x y h (table NUMBER_VARIABLES.now) (codes "variable") j)

  pub label_node_same : label_node x ≡ label_node y
  label_node_same = λ j. option_map (λ (v : Variable). leaf (label v (label_look_same j))) (value_same x y h (table NUMBER_VARIABLES.now) (codes "variable") j)

  -- parts of names
  pub name_part_same : name_part x ≡ name_part y
  name_part_same = λ j. record {
    formatting = formatting_same j;
    text_case = case_same j;
    prefix = printed_text_same x y h (codes "prefix") j;
    suffix = printed_text_same x y h (codes "suffix") j;
  }

  pub et_al_same : et_al x ≡ et_al y
  et_al_same = λ j. record { name = unwrap_or (value_same x y h (table ET_AL_TERMS.now) (codes "term") j) terms.EtAl; formatting = formatting_same j }

  -- conditions
  pub condition_same : condition x ≡ condition y
  condition_same = rw (h (codes "match"), h (codes "disambiguate"), h (codes "type"), h (codes "variable"), h (codes "is-numeric"), h (codes "is-uncertain-date"), h (codes "locator"), h (codes "position")) refl

-- the parts of a date
named_part_same : (x y : Element) → Alike x y → named_part x ≡ named_part y
named_part_same x y a = λ j. cond (is_called (codes "date-part") (names_same x y a j)) (value_same x y (alike_said x y a) (table DATE_PART_NAMES.now) (codes "name") j) None

date_part_same : (x y : Element) → Alike x y → date_part x ≡ date_part y
date_part_same x y a = λ j. option_map (λ (form : DatePartForm). part_same x y (alike_said x y a) form j) (named_part_same x y a j)

pub date_parts_same : (here : Bool) (c d : Content) → AreAlikeInside text_counts here c d → date_parts c ≡ date_parts d
date_parts_same here (Last t) (Last u) a = refl
date_parts_same here (Last t) (Next u f d) a = absurd a
date_parts_same here (Next t e c) (Last u) a = absurd a
date_parts_same here (Next t e c) (Next u f d) (ts, es, rest) = λ j. cons_option (date_part_same e f es j) (date_parts_same here c d rest j)

pub own_parts_same : (x y : Element) → Alike x y → date_parts (content_in x) ≡ date_parts (content_in y)
own_parts_same (Tagged left n ps c) (Tagged right m bs d) a = date_parts_same (text_counts (Tagged left n ps c)) c d a.2

part_change_same : (x y : Element) → Alike x y → part_change x ≡ part_change y
part_change_same x y a = λ j. option_map (λ (form : DatePartForm). change_same x y (alike_said x y a) form j) (named_part_same x y a j)

part_changes_same : (here : Bool) (c d : Content) → AreAlikeInside text_counts here c d → part_changes c ≡ part_changes d
part_changes_same here (Last t) (Last u) a = refl
part_changes_same here (Last t) (Next u f d) a = absurd a
part_changes_same here (Next t e c) (Last u) a = absurd a
part_changes_same here (Next t e c) (Next u f d) (ts, es, rest) = λ j. cons_option (part_change_same e f es j) (part_changes_same here c d rest j)

own_changes_same : (x y : Element) → Alike x y → part_changes (content_in x) ≡ part_changes (content_in y)
own_changes_same (Tagged left n ps c) (Tagged right m bs d) a = part_changes_same (text_counts (Tagged left n ps c)) c d a.2

date_form_same : (x y : Element) → SaySame x y → date_form x ≡ date_form y
date_form_same x y h = value_same x y h (table DATE_FORMS.now) (codes "form")

date_of_same : (x y : Element) → Alike x y → (v : DateVariable) → date_of x v ≡ date_of y v
date_of_same x y a v =
    let h : SaySame x y = alike_said x y a in
    λ j. record {
      variable = v;
      form = date_form_same x y h j;
      parts = unwrap_or (value_same x y h (table DATE_PARTS.now) (codes "date-parts") j) cuts.YearMonthDay;
      own_parts = cond (is_some (date_form_same x y h j)) [] (own_parts_same x y a j);
      part_changes = cond (is_some (date_form_same x y h j)) (own_changes_same x y a j) [];
      delimiter = printed_same x y h (codes "delimiter") j;
      text_case = case_same x y h j;
      merges_ranges = true;
      look = look_same x y h j;
    }

pub date_node_same : (x y : Element) → Alike x y → date_node x ≡ date_node y
date_node_same x y a =
    λ j. option_map (λ (v : DateVariable). leaf (date (date_of_same x y a v j))) (value_same x y (alike_said x y a) (table DATE_VARIABLES.now) (codes "variable") j)

-- the elements for parts of names, of which the first counts
first_part_same : (word : List ℕ) (here : Bool) (c d : Content) → AreAlikeInside text_counts here c d → option_map name_part (first_part word c) ≡ option_map name_part (first_part word d)
first_part_same word here (Last t) (Last u) a = refl
first_part_same word here (Last t) (Next u f d) a = absurd a
first_part_same word here (Next t e c) (Last u) a = absurd a
first_part_same word here (Next t e c) (Next u f d) (ts, es, rest) =
    let h : SaySame e f = alike_said e f es in
    by_test (is_part word e) (is_part word f) (λ j. is_called (codes "name-part") (names_same e f es j) && says_same e f h (codes "name") word j) (name_part_same e f h) (first_part word c) (first_part word d)
    (first_part_same word here c d rest)
  where
    by_test : (a b : Bool) → a ≡ b → name_part e ≡ name_part f → (o p : Option Element) → option_map name_part o ≡ option_map name_part p
        → option_map name_part (cond a (Some e) o) ≡ option_map name_part (cond b (Some f) p)
    by_test true true same is o p more = λ j. Some (is j)
    by_test true false same is o p more = absurd (true≢false same)
    by_test false true same is o p more = absurd (true≢false (sym same))
    by_test false false same is o p more = more

part_for_same : (word : List ℕ) (x y : Element) → Alike x y → part_for word x ≡ part_for word y
part_for_same word (Tagged left n ps c) (Tagged right m bs d) a = first_part_same word (text_counts (Tagged left n ps c)) c d a.2

name_look_same : (x y : Element) → Alike x y → name_look x ≡ name_look y
name_look_same x y a =
    let h : SaySame x y = alike_said x y a in
    λ j. record {
      options = options_same x y h (codes "form") (codes "delimiter") j;
      formatting = formatting_same x y h j;
      prefix = printed_text_same x y h (codes "prefix") j;
      suffix = printed_text_same x y h (codes "suffix") j;
      given = part_for_same (codes "given") x y a j;
      family = part_for_same (codes "family") x y a j;
    }

leads_same : (here : Bool) (c d : Content) → AreAlikeInside text_counts here c d → label_leads c ≡ label_leads d
leads_same here (Last t) (Last u) a = refl
leads_same here (Last t) (Next u f d) a = absurd a
leads_same here (Next t e c) (Last u) a = absurd a
leads_same here (Next t e c) (Next u f d) (ts, es, rest) =
    λ j. cond (is_called (codes "label") (names_same e f es j)) true (cond (is_called (codes "name") (names_same e f es j)) false (leads_same here c d rest j))

leads_inside : (x y : Element) → Alike x y → label_leads (content_in x) ≡ label_leads (content_in y)
leads_inside (Tagged left n ps c) (Tagged right m bs d) a = leads_same (text_counts (Tagged left n ps c)) c d a.2

pub names_node_same : (x y : Element) → Alike x y → names_node x ≡ names_node y
names_node_same x y a =
    let h : SaySame x y = alike_said x y a in
    λ j. record {
      variables = values_same x y h (table NAME_VARIABLES.now) (codes "variable") j;
      name = mapped_same (codes "name") name_look (λ e f is es. name_look_same e f es) (part_called (codes "name") x) (part_called (codes "name") y) (part_found (codes "name") x y a) j;
      et_al = mapped_same (codes "et-al") et_al (λ e f is es. et_al_same e f (alike_said e f es)) (part_called (codes "et-al") x) (part_called (codes "et-al") y) (part_found (codes "et-al") x y a) j;
      label = mapped_same (codes "label") label_look (λ e f is es. label_look_same e f (alike_said e f es)) (part_called (codes "label") x) (part_called (codes "label") y) (part_found (codes "label") x y a) j;
      label_is_first = some_found (codes "name") (part_called (codes "name") x) (part_called (codes "name") y) (part_found (codes "name") x y a) j && leads_inside x y a j;
      merges_editor_translator = merges (values_same x y h (table NAME_VARIABLES.now) (codes "variable") j);
      delimiter = printed_same x y h (codes "delimiter") j;
      look = look_same x y h j;
    }
