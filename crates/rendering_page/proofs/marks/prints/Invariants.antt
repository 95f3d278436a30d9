use Rattle.std.proofs.Common.{◌≡◌, ◌+◌, ◌≤◌, take, vec_len}
use Rattle.rendering_page.specs.Pages.{prints}
use Rattle.rendering_page.specs.Views.{pieces_view}
use Rattle.rendering_page.proofs.marks.prints.Given as goal

abbrev pub invariant-loop-i : goal.invariant-loop-i
invariant-loop-i l = record {
  low : l.i ≤ vec_len l.pieces;
  few : l.closed + (l.i + l.i) ≤ vec_len l.pieces + vec_len l.pieces;
  same : prints l.closed (pieces_view (take l.i l.pieces.items)) ≡ prints 0 (pieces_view l.pieces.items);
}

abbrev pub decreases-loop-i : goal.decreases-loop-i
decreases-loop-i l = l.i
