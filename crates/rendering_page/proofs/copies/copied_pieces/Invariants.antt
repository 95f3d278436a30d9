use Rattle.std.proofs.Common.{◌≡◌, take}
use Rattle.rendering_page.specs.Views.{pieces_view}
use Rattle.rendering_page.proofs.copies.copied_pieces.Given as goal

abbrev pub invariant-loop-piece : goal.invariant-loop-piece
invariant-loop-piece l = pieces_view l.copies.items ≡ pieces_view (take l.piece-index l.pieces.items)
