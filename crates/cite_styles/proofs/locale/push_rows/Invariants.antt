use Rattle.std.proofs.Common.{◌≡◌, ◌++◌, map, take}
use Rattle.rendering_locale.specs.Views.{term_view}
use Rattle.cite_styles.specs.Rows.{term_row_view}
use Rattle.cite_styles.proofs.locale.push_rows.Given as goal

abbrev pub invariant-loop-row : goal.invariant-loop-row
invariant-loop-row l = map term_view l.terms.items ≡ map term_view l.initial.terms.items ++ map term_row_view (take l.row-index l.rows)
