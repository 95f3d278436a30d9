use Rattle.std.proofs.Common.{◌≡◌, drop}
use Rattle.csl_words.specs.Looking.{table_view, in_table}
use Rattle.csl_words.proofs.looking.in_table.Given as goal

abbrev pub invariant-loop-row : goal.invariant-loop-row
invariant-loop-row g l = in_table (table_view (drop l.row-index l.rows)) l.text ≡ in_table (table_view l.rows) l.text
