-- Parts of dates with what is changed of them.
use Rattle.std.specs.Prelude.{Bool, true, false, List}
use Rattle.std.specs.List.{find}
use Rattle.std.specs.Option.{option_map_or, option_or, unwrap_or}
use Rattle.rendering_taxonomy.specs.Formats.{Changes}
use Rattle.rendering_taxonomy.specs.declared.date.DatePartForm.{DatePartForm}
use Rattle.rendering_taxonomy.specs.declared.date.DatePartForm.TheVariants as parts
use Rattle.rendering_locale.specs.Locales.{DatePart}
use Rattle.rendering_style.specs.Nodes.{DatePartChange}
use Rattle.rendering_style.specs.declared.node.ChangedDatePart.{ChangedDatePart}
use Rattle.rendering_style.specs.declared.node.ChangedDatePart.TheVariants as changed

-- whether a change is of a part
abbrev pub is_of : DatePartForm → ChangedDatePart → Bool
is_of (parts.Day own) (changed.Day form) = true
is_of (parts.Month own) (changed.Month form) = true
is_of (parts.Year own) (changed.Year form) = true
is_of own c = false

-- the form of a part, or another one if a change of the part says it
abbrev pub form_with : ChangedDatePart → DatePartForm → DatePartForm
form_with (changed.Day form) (parts.Day own) = parts.Day (unwrap_or form own)
form_with (changed.Month form) (parts.Month own) = parts.Month (unwrap_or form own)
form_with (changed.Year form) (parts.Year own) = parts.Year (unwrap_or form own)
form_with c own = own

-- what the first specifies for the look of characters, and else what the second does
abbrev pub looks_with : Changes → Changes → Changes
looks_with c own = record {
  font_style = option_or c.font_style own.font_style;
  font_variant = option_or c.font_variant own.font_variant;
  font_weight = option_or c.font_weight own.font_weight;
  text_decoration = option_or c.text_decoration own.text_decoration;
  vertical_align = option_or c.vertical_align own.vertical_align;
}

-- a part with a change of it; what the change leaves open stays, and so do the affixes
abbrev pub part_with : DatePartChange → DatePart → DatePart
part_with c p = record p {
  form = form_with c.part p.form;
  strips_periods = unwrap_or c.strips_periods p.strips_periods;
  text_case = option_or c.text_case p.text_case;
  formatting = looks_with c.formatting p.formatting;
  range_delimiter = option_or c.range_delimiter p.range_delimiter;
}

-- a part with the first of these changes that is of it, if there is one
abbrev pub changed_part : List DatePartChange → DatePart → DatePart
changed_part cs p = option_map_or (λ c. part_with c p) (find (λ c. is_of p.form c.part) cs) p
