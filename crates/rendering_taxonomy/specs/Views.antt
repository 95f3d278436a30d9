-- What is specified for the look of characters in the code, as plain data.
use Rattle.rendering_taxonomy.specs.Formats.{Changes}
use Rattle.rendering_taxonomy.specs.declared.formatting.FormattingChanges.{FormattingChanges}

-- what is specified for the look of characters
abbrev pub changes_view : FormattingChanges → Changes
changes_view c = record {
  font_style = c.font_style;
  font_variant = c.font_variant;
  font_weight = c.font_weight;
  text_decoration = c.text_decoration;
  vertical_align = c.vertical_align;
}
