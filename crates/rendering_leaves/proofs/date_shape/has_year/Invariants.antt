use Rattle.std.proofs.Common.{◌≡◌, drop, map}
use Rattle.std.specs.List.{list_any}
use Rattle.rendering_locale.specs.Locales.{DatePart}
use Rattle.rendering_locale.specs.Views.{part_view}
use Rattle.rendering_leaves.specs.Values.{is_year}
use Rattle.rendering_leaves.proofs.date_shape.has_year.Given as goal

abbrev pub invariant-loop-part : goal.invariant-loop-part
invariant-loop-part l =
    list_any (λ (p : DatePart). is_year p.form) (map part_view (drop l.part-index l.parts)) ≡ list_any (λ (p : DatePart). is_year p.form) (map part_view l.parts)
