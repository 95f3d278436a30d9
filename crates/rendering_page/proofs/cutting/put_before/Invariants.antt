use Rattle.std.proofs.Common.{◌≡◌, ◌≤◌, take, drop, vec_len}
use Rattle.std.specs.List.{fold}
use Rattle.rendering_tree.specs.Tokens.{with_letter_before}
use Rattle.rendering_page.specs.Views.{with_piece, pieces_view}
use Rattle.rendering_page.proofs.cutting.put_before.Given as goal

-- what is left to do makes of the page what all of it makes of the first page
abbrev pub invariant-loop-i : goal.invariant-loop-i
invariant-loop-i l =
    (l.i ≤ vec_len l.pieces)
    × (fold with_piece (with_letter_before l.rest l.c (pieces_view (take l.i l.pieces.items))) (drop l.i l.pieces.items) ≡ with_letter_before l.fn.count l.c (pieces_view l.fn.pieces.items))

abbrev pub decreases-loop-i : goal.decreases-loop-i
decreases-loop-i l = l.i
