use Rattle.std.proofs.Common.{◌≡◌, drop, map}
use Rattle.rendering_locale.specs.Views.{part_view}
use Rattle.sorting_styles.specs.Dates.{has_part}
use Rattle.sorting_styles.proofs.dates.has_part.Given as goal

abbrev pub invariant-loop-part : goal.invariant-loop-part
invariant-loop-part l = has_part (map part_view (drop l.part-index l.parts)) l.form ≡ has_part (map part_view l.parts) l.form
