use Rattle.std.proofs.Common.{◌≡◌, ◌≤◌, length, take, reverse}
use denote.Shadow.{shadow}
use denote.Text.{Utf8}
use Rattle.std.specs.Str.{chars}
use Rattle.rendering_tree.specs.Tokens.{last_text}
use Rattle.rendering_page.specs.Cursors.{backwards_from, begins}
use Rattle.rendering_page.specs.Tail.{ends_in}
use Rattle.rendering_page.specs.Views.{pieces_view}
use Rattle.rendering_page.proofs.page_end.ends_in_text.Given as goal

abbrev pub invariant-loop-i : goal.invariant-loop-i
invariant-loop-i l =
    (l.i ≤ length l.pieces)
    × (begins (reverse (chars l.rest)) (backwards_from l.met (pieces_view (take l.i l.pieces))) ≡ ends_in (chars l.end) (last_text (pieces_view l.pieces)))
    × shadow (Utf8 l.rest)

abbrev pub decreases-loop-i : goal.decreases-loop-i
decreases-loop-i l = l.i
