use Rattle.std.proofs.Common.{List, map, subst, sym, ◌∙◌}
use Rattle.std.specs.Fmt.{WritesInCalls}
use Rattle.std.specs.List.{flat_map}
use Rattle.biblatex_fields.specs.Value.{field_value_view}
use Rattle.biblatex_writing.specs.Order.{Row, merged}
use Rattle.biblatex_writing.specs.MovedFields.{row_view}
use Rattle.biblatex_writing.specs.Written.{written_field}
use Rattle.biblatex_writing.proofs.EntriesWritten.{passes_moved, field_first}
use Rattle.biblatex_writing.proofs.entries.push_next.Goals as goal

pub returns-then-is_never_written : goal.returns-then-is_never_written
returns-then-is_never_written g c = λ fs u written.
    passes_moved g.T.Target.takes c.args.target.now u (map row_view c.args.rows.now) (c.args.name.now, field_value_view c.args.value.now.items) fs c.args.fields.now (sym c.is_never_written.ensures ∙ c.if-is_never_written.true) written

pub returns : goal.returns
returns g c = λ fs u written.
    let took = g.T.Target.takes in
    let all = c.args.fields.now in
    field_first took c.args.target.now c.push_before-rest.new.target c.push_field.new.target u (map row_view c.args.rows.now) (c.args.name.now, field_value_view c.args.value.now.items) fs all
    (sym c.is_never_written.ensures ∙ c.if-is_never_written.false) c.push_before-rest.ensures.written c.push_field.ensures
    (subst (λ (rows : List Row). WritesInCalls took c.push_field.new.target (flat_map written_field (merged rows fs all)) u) c.push_before-rest.ensures.rest written)
