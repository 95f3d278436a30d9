use Rattle.std.proofs.Common.{◌≡◌, map, take}
use Rattle.rendering_locale.specs.Views.{part_view}
use Rattle.cite_styles.specs.Rows.{part_row_view}
use Rattle.cite_styles.proofs.dates.parts.Given as goal

abbrev pub invariant-loop-row : goal.invariant-loop-row
invariant-loop-row l = map part_view l.parts.items ≡ map part_row_view (take l.row-index l.rows)
