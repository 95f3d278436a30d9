use Rattle.std.proofs.Common.{◌≡◌, [], length}
use Rattle.std.specs.Prelude.{fold}
use Rattle.std.specs.Vec.Iter.{into_iter_items, into_iter_len}
use Rattle.rendering_page.specs.Joints.{joining, nothing_joined}
use Rattle.rendering_page.specs.Views.{pieces_view, with_piece}
use Rattle.rendering_page.proofs.joining.join.Given as goal

abbrev pub invariant-loop-piece : goal.invariant-loop-piece
invariant-loop-piece l = record {
  same : fold (λ j p. joining l.inside (with_piece [] p) j) l.joining (into_iter_items l.piece-iterator)
      ≡ joining l.inside (pieces_view l.fn.pieces.items) nothing_joined;
  long : into_iter_len l.piece-iterator ≡ length (into_iter_items l.piece-iterator);
}
