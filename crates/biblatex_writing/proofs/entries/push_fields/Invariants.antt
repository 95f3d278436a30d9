use Rattle.std.proofs.Common.{map}
use Rattle.std.specs.Fmt.{WritesInCalls}
use Rattle.std.specs.List.{flat_map}
use Rattle.biblatex_fields.specs.Fields.{named_fields_view}
use Rattle.biblatex_writing.specs.FieldNames.{other_names}
use Rattle.biblatex_writing.specs.Order.{merged}
use Rattle.biblatex_writing.specs.MovedFields.{row_view}
use Rattle.biblatex_writing.specs.Written.{written_field}
use Rattle.biblatex_writing.proofs.entries.push_fields.Given as goal

abbrev pub invariant-loop-name : goal.invariant-loop-name
invariant-loop-name g l =
    (u : g.row.T.Denot) → WritesInCalls g.T.Target.takes l.target (flat_map written_field (merged (map row_view l.rows) (named_fields_view l.name-iterator) l.fields)) u
    → WritesInCalls g.T.Target.takes l.fn.target (flat_map written_field (merged other_names l.fields l.fields)) u
