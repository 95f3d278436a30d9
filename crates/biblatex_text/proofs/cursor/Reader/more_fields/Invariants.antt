use Rattle.std.proofs.Common.{◌≡◌, ◌≤◌, length}
use Rattle.std.specs.Prelude.{All}
use Rattle.biblatex_text.specs.Fields.{more_fields_at}
use Rattle.biblatex_text.specs.Span.{IsPairOf}
use Rattle.biblatex_text.specs.Views.{left, size, fields_view, prepended}
use Rattle.biblatex_text.proofs.cursor.Reader.more_fields.Given as goal

abbrev pub invariant-loop-pairs : goal.invariant-loop-pairs
invariant-loop-pairs l = record {
  source : l.self.source.now ≡ l.fn.self.source.now;
  on : length l.self.rest.now ≤ length l.fn.self.rest.now;
  slices : All (IsPairOf l.fn.self.source.now) l.fn.pairs.items → All (IsPairOf l.fn.self.source.now) l.pairs.items;
  reads : prepended (fields_view l.pairs) (more_fields_at (size l.fn.self) l.fn.bracket (left l.self)) ≡ prepended (fields_view l.fn.pairs) (more_fields_at (size l.fn.self) l.fn.bracket (left l.fn.self));
}

abbrev pub decreases-loop-pairs : goal.decreases-loop-pairs
decreases-loop-pairs l = length (left l.self)
