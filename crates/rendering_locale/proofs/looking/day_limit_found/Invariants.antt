use Rattle.std.proofs.Common.{◌≡◌, drop}
use Rattle.rendering_locale.specs.Lookup.{first_answer}
use Rattle.rendering_locale.specs.Locales.{Locale}
use Rattle.rendering_locale.specs.Views.{locales_view}
use Rattle.rendering_locale.proofs.looking.day_limit_found.Given as goal

abbrev pub invariant-loop-locale : goal.invariant-loop-locale
invariant-loop-locale l = first_answer (λ (x : Locale). x.limits_day_ordinals) (locales_view (drop l.locale-index l.locales)) ≡ first_answer (λ (x : Locale). x.limits_day_ordinals) (locales_view l.locales)
