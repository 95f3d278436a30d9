use Rattle.std.proofs.Common.{◌≡◌, drop}
use Rattle.rendering_locale.specs.Lookup.{date_found}
use Rattle.rendering_locale.specs.Views.{locales_view}
use Rattle.rendering_locale.proofs.looking.date_found.Given as goal

abbrev pub invariant-loop-locale : goal.invariant-loop-locale
invariant-loop-locale l = date_found (locales_view (drop l.locale-index l.locales)) l.form ≡ date_found (locales_view l.locales) l.form
