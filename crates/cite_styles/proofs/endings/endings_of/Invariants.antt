use Rattle.std.proofs.Common.{◌≡◌, map, take}
use Rattle.rendering_locale.specs.Views.{ending_view}
use Rattle.cite_styles.specs.Rows.{ending_row_view}
use Rattle.cite_styles.proofs.endings.endings_of.Given as goal

abbrev pub invariant-loop-row : goal.invariant-loop-row
invariant-loop-row l = map ending_view l.endings.items ≡ map ending_row_view (take l.row-index l.rows)
