use Rattle.std.proofs.Common.{◌≡◌, length}
use Rattle.rendering_page.specs.Pages.{before_prefix}
use Rattle.rendering_page.specs.Views.{pieces_view}
use Rattle.rendering_page.proofs.marks.cut_prefix.Given as goal

abbrev pub invariant-loop-piece : goal.invariant-loop-piece
invariant-loop-piece l = before_prefix (pieces_view l.pieces.items) ≡ before_prefix (pieces_view l.fn.pieces.items)

abbrev pub decreases-loop-piece : goal.decreases-loop-piece
decreases-loop-piece l = length l.pieces.items
