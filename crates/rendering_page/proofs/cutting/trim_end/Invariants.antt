use Rattle.std.proofs.Common.{◌≡◌, ◌≤◌, take, drop, vec_len}
use Rattle.std.specs.Prelude.{None}
use Rattle.std.specs.List.{fold}
use Rattle.rendering_page.specs.Cursors.{trimmed_from}
use Rattle.rendering_page.specs.Views.{with_piece, pieces_view}
use Rattle.rendering_page.proofs.cutting.trim_end.Given as goal

-- what is left to do makes of the page what all of it makes of the first page
abbrev pub invariant-loop-i : goal.invariant-loop-i
invariant-loop-i l =
    (l.i ≤ vec_len l.pieces)
    × (fold with_piece (trimmed_from l.met (pieces_view (take l.i l.pieces.items))) (drop l.i l.pieces.items) ≡ trimmed_from None (pieces_view l.fn.pieces.items))

abbrev pub decreases-loop-i : goal.decreases-loop-i
decreases-loop-i l = l.i
