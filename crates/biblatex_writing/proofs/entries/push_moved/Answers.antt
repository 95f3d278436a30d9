use Rattle.std.proofs.Common.{ℕ, List, map, ap, sym, subst}
use Rattle.std.specs.Fmt.{WritesInCalls}
use Rattle.std.specs.List.{flat_map}
use Rattle.std.proofs.lemmas.List.{nil_from_length}
use Rattle.biblatex_writing.specs.Order.{field_there, moved}
use Rattle.biblatex_writing.specs.declared.names.Moved.{Moved}
use Rattle.biblatex_writing.specs.MovedFields.{row_view}
use Rattle.biblatex_writing.specs.Written.{written_field}
use Rattle.biblatex_writing.proofs.Calls.{nothing, same}
use Rattle.biblatex_writing.proofs.EntriesWritten.{row_first}
use Rattle.biblatex_writing.proofs.entries.push_moved.Goals as goal

pub loop-row-preserved : goal.loop-row-preserved
loop-row-preserved g c = λ u written.
    let took = g.T.Target.takes in
    let fs = c.args.fields.now in
    let row = c.in-Some.row.now in
    let others = map row_view c.in-Some.others.now in
    c.loop-row.invariant u
    (same took c.loop-row.target _ _ u (ap (λ (ys : List Moved). flat_map written_field (moved (map row_view ys) fs)) (sym c.in-Some.ensures.cases.0))
    (row_first took c.loop-row.target c.push_there.new.target u (row_view row) others fs (subst (λ (n : List ℕ). WritesInCalls took c.loop-row.target (flat_map written_field (field_there n fs)) c.push_there.new.target) c.name.ensures c.push_there.ensures) written))

pub returns : goal.returns
returns g c =
    let fs = c.args.fields.now in
    c.loop-row.invariant c.loop-row.target
    (nothing g.T.Target.takes c.loop-row.target _ (ap (λ (ys : List Moved). flat_map written_field (moved (map row_view ys) fs)) (nil_from_length _ c.in_default.ensures.cases)))
