-- A style with what it is used with, as the code has them.
use Rattle.std.specs.Prelude.{List, map, Option}
use Rattle.std.specs.Borrow.{Bor}
use Rattle.std.specs.Option.{option_map}
use Rattle.rendering_context.specs.Contexts.{StyleContext}
use Rattle.rendering_locale.specs.CodeViews.{borrowed_code_view}
use Rattle.rendering_locale.specs.Views.{locale_view}
use Rattle.rendering_locale.specs.declared.code.LocaleCode.{LocaleCode}
use Rattle.rendering_locale.specs.declared.locale.Locale.{Locale}
use Rattle.rendering_style.specs.StyleViews.{style_view}
use Rattle.rendering_style.specs.declared.style.Style.{Style}

-- a style with the language that is asked for, and the files with locales
abbrev pub style_context_of : Style → Option (Bor LocaleCode) → List Locale → StyleContext
style_context_of s locale files = record {
  style = style_view s;
  locale = option_map borrowed_code_view locale;
  locale_files = map locale_view files;
}
