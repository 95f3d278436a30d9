use Rattle.std.proofs.Common.{◌≡◌, ◌++◌}
use Rattle.biblatex_fields.specs.Fields.{named_fields_view}
use Rattle.biblatex_typography.specs.Changes.{changed_fields}
use Rattle.biblatex_typography.proofs.Fields.{AreAllJoined}
use Rattle.biblatex_typography.proofs.changes.changed_fields.Given as goal

abbrev pub invariant-loop-name : goal.invariant-loop-name
invariant-loop-name l = record {
  same : named_fields_view l.changed.items ++ changed_fields (named_fields_view l.name-iterator) ≡ changed_fields l.fields;
  joined : AreAllJoined (named_fields_view l.name-iterator);
}
