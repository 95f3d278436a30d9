use Rattle.std.proofs.Common.{◌≡◌, ◌&&◌, drop, map}
use Rattle.std.specs.List.{find}
use Rattle.rendering_locale.specs.Locales.{DatePart}
use Rattle.rendering_locale.specs.Views.{part_view}
use Rattle.rendering_dates.specs.Dates.{differs_first, is_within}
use Rattle.rendering_dates.specs.Views.{changed_by}
use Rattle.rendering_dates.proofs.shape.DateShape.own_delimiter.Given as goal

abbrev pub invariant-loop-part : goal.invariant-loop-part
invariant-loop-part l =
    find (λ (p : DatePart). is_within l.self.cut p.form && differs_first l.first l.last p.form) (changed_by l.self (map part_view (drop l.part-index l.part-items)))
    ≡ find (λ (p : DatePart). is_within l.self.cut p.form && differs_first l.first l.last p.form) (changed_by l.self (map part_view l.self.parts.now))
