-- How characters look.
use Rattle.std.specs.Prelude.{ℕ, Bool, ◌==◌, ◌&&◌, Option, None}
use Rattle.std.specs.Option.{unwrap_or}
use Rattle.rendering_taxonomy.specs.declared.formatting.FontStyle.{FontStyle}
use Rattle.rendering_taxonomy.specs.declared.formatting.FontStyle.TheVariants as styles
use Rattle.rendering_taxonomy.specs.declared.formatting.FontVariant.{FontVariant}
use Rattle.rendering_taxonomy.specs.declared.formatting.FontVariant.TheVariants as variants
use Rattle.rendering_taxonomy.specs.declared.formatting.FontWeight.{FontWeight}
use Rattle.rendering_taxonomy.specs.declared.formatting.FontWeight.TheVariants as weights
use Rattle.rendering_taxonomy.specs.declared.formatting.TextDecoration.{TextDecoration}
use Rattle.rendering_taxonomy.specs.declared.formatting.TextDecoration.TheVariants as decorations
use Rattle.rendering_taxonomy.specs.declared.formatting.VerticalAlign.{VerticalAlign}
use Rattle.rendering_taxonomy.specs.declared.formatting.VerticalAlign.TheVariants as aligns
use Rattle.rendering_taxonomy.specs.declared.formatting.Formatting.{Formatting}

-- the indices of the values of the style
abbrev pub style_index : FontStyle → ℕ
style_index styles.Normal = 0
style_index styles.Italic = 1
style_index styles.Oblique = 2

-- the indices of the values of the variant
abbrev pub variant_index : FontVariant → ℕ
variant_index variants.Normal = 0
variant_index variants.SmallCaps = 1

-- the indices of the values of the weight
abbrev pub weight_index : FontWeight → ℕ
weight_index weights.Normal = 0
weight_index weights.Bold = 1
weight_index weights.Light = 2

-- the indices of the values of the decoration
abbrev pub decoration_index : TextDecoration → ℕ
decoration_index decorations.None = 0
decoration_index decorations.Underline = 1

-- the indices of the values of the position on the line
abbrev pub align_index : VerticalAlign → ℕ
align_index aligns.None = 0
align_index aligns.Sup = 1
align_index aligns.Sub = 2

-- characters as they look where nothing is specified for them
abbrev pub plain : Formatting
plain = record { font_style = styles.Normal; font_variant = variants.Normal; font_weight = weights.Normal; text_decoration = decorations.None; vertical_align = aligns.None }

-- whether two look alike
abbrev pub looks_like : Formatting → Formatting → Bool
looks_like f g =
    style_index f.font_style == style_index g.font_style
    && variant_index f.font_variant == variant_index g.font_variant
    && weight_index f.font_weight == weight_index g.font_weight
    && decoration_index f.text_decoration == decoration_index g.text_decoration
    && align_index f.vertical_align == align_index g.vertical_align

-- what is specified for the look of characters; what is not specified stays as it is around
pub record Changes : Type 0 where
  pub font_style : Option FontStyle
  pub font_variant : Option FontVariant
  pub font_weight : Option FontWeight
  pub text_decoration : Option TextDecoration
  pub vertical_align : Option VerticalAlign

-- nothing is specified
abbrev pub unchanged : Changes
unchanged = record { font_style = None; font_variant = None; font_weight = None; text_decoration = None; vertical_align = None }

-- how characters look inside
abbrev pub changed : Changes → Formatting → Formatting
changed c f = record {
  font_style = unwrap_or c.font_style f.font_style;
  font_variant = unwrap_or c.font_variant f.font_variant;
  font_weight = unwrap_or c.font_weight f.font_weight;
  text_decoration = unwrap_or c.text_decoration f.text_decoration;
  vertical_align = unwrap_or c.vertical_align f.vertical_align;
}
