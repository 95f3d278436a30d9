use Rattle.std.proofs.Common.{◌≡◌, ℕ, true, false, List, map, ap, sym, subst, ◌∙◌}
use Rattle.std.specs.Fmt.{WritesInCalls}
use Rattle.std.specs.List.{flat_map}
use Rattle.std.proofs.lemmas.List.{nil_from_length}
use Rattle.biblatex_writing.specs.Order.{comes_before, field_there, moved, rows_before, rows_after}
use Rattle.biblatex_writing.specs.declared.names.Moved.{Moved}
use Rattle.biblatex_writing.specs.MovedFields.{row_view}
use Rattle.biblatex_writing.specs.Written.{written_field}
use Rattle.biblatex_writing.proofs.Calls.{nothing, same}
use Rattle.biblatex_writing.proofs.EntriesWritten.{row_before, none_before, stays_after, goes_after}
use Rattle.biblatex_writing.proofs.entries.push_before.Goals as goal

abbrev Rows : Type 0
Rows = List Moved

pub loop-row-preserved : goal.loop-row-preserved
loop-row-preserved g c =
    let took = g.T.Target.takes in
    let fs = c.args.fields.now in
    let name = c.args.name.now in
    let row = row_view c.in-Some.row.now in
    let others = map row_view c.in-Some.others.now in
    let before : comes_before row name ≡ true = sym c.comes_before.ensures ∙ c.if-not-comes_before.false in
    record {
      written = λ u written. c.loop-row.invariant.written u
          (same took c.loop-row.target _ _ u (ap (λ (ys : Rows). flat_map written_field (moved (rows_before name (map row_view ys)) fs)) (sym c.in-Some.ensures.cases.0))
          (row_before took c.loop-row.target c.push_there.new.target u row others name fs before (subst (λ (n : List ℕ). WritesInCalls took c.loop-row.target (flat_map written_field (field_there n fs)) c.push_there.new.target) c.name.ensures c.push_there.ensures) written));
      rest = goes_after name row others before ∙ (ap (λ (ys : Rows). rows_after name (map row_view ys)) (sym c.in-Some.ensures.cases.0) ∙ c.loop-row.invariant.rest);
    }

pub returns-then-not-comes_before : goal.returns-then-not-comes_before
returns-then-not-comes_before g c =
    let took = g.T.Target.takes in
    let fs = c.args.fields.now in
    let name = c.args.name.now in
    let row = row_view c.in-Some.row.now in
    let others = map row_view c.in-Some.others.now in
    let after : comes_before row name ≡ false = sym c.comes_before.ensures ∙ c.if-not-comes_before.true in
    record {
      written = c.loop-row.invariant.written c.loop-row.target
          (same took c.loop-row.target _ _ c.loop-row.target (ap (λ (ys : Rows). flat_map written_field (moved (rows_before name (map row_view ys)) fs)) (sym c.in-Some.ensures.cases.0))
          (none_before took c.loop-row.target row others name fs after));
      rest = ap (λ (ys : Rows). map row_view ys) c.in-Some.ensures.cases.0
          ∙ (stays_after name row others after ∙ (ap (λ (ys : Rows). rows_after name (map row_view ys)) (sym c.in-Some.ensures.cases.0) ∙ c.loop-row.invariant.rest));
    }

pub returns : goal.returns
returns g c =
    let took = g.T.Target.takes in
    let fs = c.args.fields.now in
    let name = c.args.name.now in
    let none = nil_from_length _ c.in_default.ensures.cases in
    record {
      written = c.loop-row.invariant.written c.loop-row.target (nothing took c.loop-row.target _ (ap (λ (ys : Rows). flat_map written_field (moved (rows_before name (map row_view ys)) fs)) none));
      rest = ap (λ (ys : Rows). map row_view ys) none ∙ (ap (λ (ys : Rows). rows_after name (map row_view ys)) (sym none) ∙ c.loop-row.invariant.rest);
    }
