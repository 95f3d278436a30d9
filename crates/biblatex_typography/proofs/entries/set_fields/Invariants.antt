use Rattle.std.proofs.Common.{◌≡◌, length}
use Rattle.std.specs.Vec.Iter.{into_iter_items, into_iter_len}
use Rattle.biblatex_fields.specs.Fields.{named_fields_view}
use Rattle.biblatex_typography.specs.Changes.{with_fields}
use Rattle.biblatex_typography.proofs.entries.set_fields.Given as goal

abbrev pub invariant-loop-name : goal.invariant-loop-name
invariant-loop-name l = record {
  same : with_fields l.fields (named_fields_view (into_iter_items l.name-iterator)) ≡ with_fields l.fn.fields (named_fields_view l.fn.changed.items);
  long : into_iter_len l.name-iterator ≡ length (into_iter_items l.name-iterator);
}
