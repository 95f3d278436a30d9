use Rattle.std.proofs.Common.{◌≡◌, length}
use denote.Shadow.{shadow}
use denote.Text.{Utf8}
use Rattle.std.specs.Str.{bytes_eq, chars}
use Rattle.rendering_page.specs.Cursors.{to_come}
use Rattle.rendering_page.specs.PageCharacters.{page_text}
use Rattle.rendering_page.specs.Views.{pieces_view}
use Rattle.rendering_page.proofs.page_characters.show_the_same.Given as goal

abbrev pub invariant-loop-c : goal.invariant-loop-c
invariant-loop-c l =
    (bytes_eq (to_come l.one l.i (chars l.first)) (to_come l.other l.k (chars l.second)) ≡ bytes_eq (page_text (pieces_view l.one)) (page_text (pieces_view l.other)))
    × shadow (Utf8 l.first)
    × shadow (Utf8 l.second)

abbrev pub decreases-loop-c : goal.decreases-loop-c
decreases-loop-c l = length (to_come l.one l.i (chars l.first))
