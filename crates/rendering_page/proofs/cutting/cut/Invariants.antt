use Rattle.std.proofs.Common.{◌≡◌, ◌≤◌, take, drop, vec_len}
use Rattle.std.specs.List.{fold}
use Rattle.rendering_tree.specs.Tokens.{without_letters}
use Rattle.rendering_page.specs.Views.{with_piece, pieces_view}
use Rattle.rendering_page.proofs.cutting.cut.Given as goal

-- what is left to do makes of the page what all of it makes of the first page
abbrev pub invariant-loop-i : goal.invariant-loop-i
invariant-loop-i l =
    (l.i ≤ vec_len l.pieces)
    × (fold with_piece (without_letters l.rest (pieces_view (take l.i l.pieces.items))) (drop l.i l.pieces.items) ≡ without_letters l.fn.count (pieces_view l.fn.pieces.items))

abbrev pub decreases-loop-i : goal.decreases-loop-i
decreases-loop-i l = l.i
