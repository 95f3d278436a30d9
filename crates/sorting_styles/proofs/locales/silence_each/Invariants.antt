use Rattle.rendering_locale.specs.Views.{locale_view}
use Rattle.sorting_styles.specs.Locales.{silenced}
use Rattle.sorting_styles.proofs.Changed.{AreChanged, IsUnvisited}
use Rattle.sorting_styles.proofs.locales.silence_each.Given as goal

abbrev pub invariant-loop-locale : goal.invariant-loop-locale
invariant-loop-locale l = IsUnvisited l.fn.locales l.locales l.locale-index × AreChanged locale_view silenced l.fn.locales l.locales l.locale-index
