use Rattle.std.proofs.Common.{◌≡◌, ◌≤◌, length}
use Rattle.laws.specs.Steps.{each}
use Rattle.biblatex_text.specs.Items.{next_item_at, raw_at}
use Rattle.biblatex_text.specs.Span.{IsRawOf}
use Rattle.biblatex_text.specs.Views.{left, size, raw_view}
use Rattle.biblatex_text.proofs.RawGathered.{onto}
use Rattle.biblatex_text.proofs.cursor.Reader.all.Given as goal

abbrev pub invariant-loop-found : goal.invariant-loop-found
invariant-loop-found l = record {
  source : l.self.source.now ≡ l.fn.self.source.now;
  on : length l.self.rest.now ≤ length l.fn.self.rest.now;
  slices : IsRawOf l.fn.self.source.now l.found;
  reads : onto (raw_view l.found) (each (next_item_at (size l.fn.self)) (left l.self)) ≡ raw_at (size l.fn.self) (left l.fn.self);
}

abbrev pub decreases-loop-found : goal.decreases-loop-found
decreases-loop-found l = length (left l.self)
