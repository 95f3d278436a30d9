use Rattle.std.proofs.Common.{◌≡◌, length, map}
use Rattle.rendering_locale.specs.Views.{part_view}
use Rattle.rendering_dates.specs.Sides.{last_parts}
use Rattle.rendering_dates.specs.Views.{changed_by, printed_by}
use Rattle.rendering_dates.proofs.shape.DateShape.first_apart.Given as goal

abbrev pub invariant-loop-part : goal.invariant-loop-part
invariant-loop-part l =
    last_parts l.first l.last (printed_by l.self (changed_by l.self (map part_view l.rest)))
    ≡ last_parts l.first l.last (printed_by l.self (changed_by l.self (map part_view l.self.parts.now)))

abbrev pub decreases-loop-part : goal.decreases-loop-part
decreases-loop-part l = length l.rest
