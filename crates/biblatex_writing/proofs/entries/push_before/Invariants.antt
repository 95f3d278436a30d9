use Rattle.std.proofs.Common.{◌≡◌, map, length}
use Rattle.std.specs.Fmt.{WritesInCalls}
use Rattle.std.specs.List.{flat_map}
use Rattle.biblatex_writing.specs.Order.{moved, rows_before, rows_after}
use Rattle.biblatex_writing.specs.MovedFields.{row_view}
use Rattle.biblatex_writing.specs.Written.{written_field}
use Rattle.biblatex_writing.proofs.entries.push_before.Given as goal

abbrev pub invariant-loop-row : goal.invariant-loop-row
invariant-loop-row g l = record {
  written : (u : g.row.T.Denot) → WritesInCalls g.T.Target.takes l.target (flat_map written_field (moved (rows_before l.name (map row_view l.rest)) l.fields)) u
      → WritesInCalls g.T.Target.takes l.fn.target (flat_map written_field (moved (rows_before l.name (map row_view l.rows)) l.fields)) u;
  rest : rows_after l.name (map row_view l.rest) ≡ rows_after l.name (map row_view l.rows);
}

abbrev pub decreases-loop-row : goal.decreases-loop-row
decreases-loop-row g l = length l.rest
