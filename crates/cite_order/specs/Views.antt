-- What the code is given, without where it lies in memory.
use Rattle.std.specs.Prelude.{ℕ, List, map}
use Rattle.std.specs.Borrow.{Bor}
use Rattle.std.specs.Option.{option_map}
use Rattle.rendering_locale.specs.Views.{locale_view}
use Rattle.rendering_style.specs.StyleViews.{style_view}
use Rattle.rendering_context.specs.Contexts.{StyleContext}
use Rattle.cite_order.specs.Order.{Setting}
use Rattle.cite_order.specs.declared.setting.SortedSetting.{SortedSetting}

-- the style, the language that is asked for, and the locales
abbrev pub context_view : SortedSetting → StyleContext
context_view s =
    record {
      style = style_view s.style.now;
      locale = option_map (λ (c : Bor (List ℕ)). c.now) s.lang;
      locale_files = map locale_view s.locales.now;
    }

-- with the style as it prints for sorting
abbrev pub setting_view : SortedSetting → Setting
setting_view s = record { context = context_view s; sorting = style_view s.sorting.now }
