use Rattle.std.proofs.Common.{◌≡◌, ◌≤◌, length, take}
use Rattle.rendering_tree.specs.Tokens.{last_backwards}
use Rattle.rendering_page.specs.Cursors.{backwards_from}
use Rattle.rendering_page.specs.Views.{pieces_view}
use Rattle.rendering_page.proofs.page_end.last_character.Given as goal

abbrev pub invariant-loop-i : goal.invariant-loop-i
invariant-loop-i l =
    (l.i ≤ length l.pieces)
    × (backwards_from l.met (pieces_view (take l.i l.pieces)) ≡ last_backwards (pieces_view l.pieces))

abbrev pub decreases-loop-i : goal.decreases-loop-i
decreases-loop-i l = l.i
