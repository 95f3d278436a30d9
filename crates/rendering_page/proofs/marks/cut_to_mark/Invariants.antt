use Rattle.std.proofs.Common.{◌≡◌, ◌+◌, ◌≤◌, length}
use Rattle.rendering_page.specs.Pages.{before_mark}
use Rattle.rendering_page.specs.Views.{pieces_view}
use Rattle.rendering_page.proofs.marks.cut_to_mark.Given as goal

abbrev pub invariant-loop-piece : goal.invariant-loop-piece
invariant-loop-piece l = record {
  few : l.closed + (length l.pieces.items + length l.pieces.items) ≤ length l.fn.pieces.items + length l.fn.pieces.items;
  same : before_mark l.closed (pieces_view l.pieces.items) ≡ before_mark 0 (pieces_view l.fn.pieces.items);
}

abbrev pub decreases-loop-piece : goal.decreases-loop-piece
decreases-loop-piece l = length l.pieces.items
