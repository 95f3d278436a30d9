-- Styles that were built.
use Rattle.rendering_style.specs.Styles as styles
use Rattle.rendering_style.specs.Views.{style_parts_view}
use Rattle.rendering_style.specs.declared.style.Style.{Style}

-- a style
abbrev pub style_view : Style → styles.Style
style_view s = style_parts_view s.parts
