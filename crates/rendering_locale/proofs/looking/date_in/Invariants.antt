use Rattle.std.proofs.Common.{◌≡◌, drop, map, find}
use Rattle.rendering_locale.specs.Lookup.{is_date_form}
use Rattle.rendering_locale.specs.Locales.{LocalizedDate}
use Rattle.rendering_locale.specs.Views.{localized_date_view}
use Rattle.rendering_locale.proofs.looking.date_in.Given as goal

abbrev pub invariant-loop-date : goal.invariant-loop-date
invariant-loop-date l = find (λ (d : LocalizedDate). is_date_form d.form l.form) (map localized_date_view (drop l.date-index l.locale.dates.items)) ≡ find (λ (d : LocalizedDate). is_date_form d.form l.form) (map localized_date_view l.locale.dates.items)
