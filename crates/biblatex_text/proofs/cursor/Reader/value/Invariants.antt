use Rattle.std.proofs.Common.{◌≡◌, ◌≤◌, length}
use Rattle.std.specs.Prelude.{All}
use Rattle.biblatex_text.specs.Value.{value_at}
use Rattle.biblatex_text.specs.Span.{IsPieceOf}
use Rattle.biblatex_text.specs.Views.{left, size, pieces_view}
use Rattle.biblatex_text.proofs.ValuePieces.{value_onto}
use Rattle.biblatex_text.proofs.cursor.Reader.value.Given as goal

abbrev pub invariant-loop-pieces : goal.invariant-loop-pieces
invariant-loop-pieces l = record {
  source : l.self.source.now ≡ l.fn.self.source.now;
  on : length l.self.rest.now ≤ length l.fn.self.rest.now;
  slices : All (IsPieceOf l.fn.self.source.now) l.pieces.items;
  reads : value_onto (size l.fn.self) l.start (pieces_view l.pieces) (left l.self) ≡ value_at (size l.fn.self) (left l.fn.self);
}

abbrev pub decreases-loop-pieces : goal.decreases-loop-pieces
decreases-loop-pieces l = length (left l.self)
