-- Parts of dates.
use Rattle.std.specs.Prelude.{ℕ, List, [], if◌then◌else◌, Option, None, unwrap_or, codes}
use Rattle.std.specs.List.{cons_option}
use Rattle.std.specs.Option.{option_map}
use Rattle.xml_tree.specs.Trees.{Element, Content, Last, Next}
use Rattle.xml_schema.specs.Faults.{name_of}
use Rattle.rendering_locale.specs.Locales.{DatePart}
use Rattle.rendering_style.specs.Nodes.{DatePartChange}
use Rattle.rendering_style.specs.declared.node.ChangedDatePart.{ChangedDatePart}
use Rattle.rendering_style.specs.declared.node.ChangedDatePart.TheVariants as changed
use Rattle.rendering_taxonomy.specs.declared.date.DatePartForm.{DatePartForm}
use Rattle.rendering_taxonomy.specs.declared.date.DatePartForm.TheVariants as parts
use Rattle.csl_words.specs.Elements.{is_called}
use Rattle.csl_words.specs.Looking.{table, value_by, is_set, is_true}
use Rattle.csl_words.specs.Printing.{printed, printed_text}
use Rattle.csl_words.specs.declared.options.TheConstants.{DATE_PART_NAMES, DAY_FORMS, LENGTHS, MONTH_FORMS}
use Rattle.csl_nodes.specs.Looks.{formatting, text_case}

-- a part in the form that an element says, if it is one of a day, a month or a year
abbrev pub in_form : Element → DatePartForm → DatePartForm
in_form e (parts.Day form) = parts.Day (unwrap_or (value_by (table DAY_FORMS.now) (codes "form") e) form)
in_form e (parts.Month form) = parts.Month (unwrap_or (value_by (table MONTH_FORMS.now) (codes "form") e) form)
in_form e (parts.Year form) = parts.Year (unwrap_or (value_by (table LENGTHS.now) (codes "form") e) form)

-- a part of a date in the form, as an element says how it looks
abbrev pub part_of : Element → DatePartForm → DatePart
part_of e form = record {
  form = in_form e form;
  strips_periods = is_true (codes "strip-periods") e;
  text_case = text_case e;
  formatting = formatting e;
  prefix = printed_text (codes "prefix") e;
  suffix = printed_text (codes "suffix") e;
  range_delimiter = printed (codes "range-delimiter") e;
}

-- the part of a date that an element names, in the form that it has where nothing else is said
abbrev pub named_part : Element → Option DatePartForm
named_part e = if is_called (codes "date-part") (name_of e) then value_by (table DATE_PART_NAMES.now) (codes "name") e else None

-- the part of a date that an element is, if it is one
abbrev pub date_part : Element → Option DatePart
date_part e = option_map (part_of e) (named_part e)

-- the parts of a date in an element, in their order
abbrev pub date_parts : Content → List DatePart
date_parts (Last t) = []
date_parts (Next t e c) = cons_option (date_part e) (date_parts c)

-- which part an element changes, and the form that it says
abbrev pub changed_in : Element → DatePartForm → ChangedDatePart
changed_in e (parts.Day form) = changed.Day (value_by (table DAY_FORMS.now) (codes "form") e)
changed_in e (parts.Month form) = changed.Month (value_by (table MONTH_FORMS.now) (codes "form") e)
changed_in e (parts.Year form) = changed.Year (value_by (table LENGTHS.now) (codes "form") e)

-- what an element changes of a part of a date, but for its affixes
abbrev pub change_of : Element → DatePartForm → DatePartChange
change_of e form = record {
  part = changed_in e form;
  strips_periods = is_set (codes "strip-periods") e;
  text_case = text_case e;
  formatting = formatting e;
  range_delimiter = printed (codes "range-delimiter") e;
}

-- the change of a part of a date that an element is, if it is one
abbrev pub part_change : Element → Option DatePartChange
part_change e = option_map (change_of e) (named_part e)

-- the changes of parts of a date in an element, in their order
abbrev pub part_changes : Content → List DatePartChange
part_changes (Last t) = []
part_changes (Next t e c) = cons_option (part_change e) (part_changes c)
