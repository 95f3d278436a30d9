use Rattle.std.proofs.Common.{◌≡◌, ◌-◌, length}
use denote.Shadow.{shadow}
use denote.Text.{Utf8}
use Rattle.std.specs.Str.{chars}
use Rattle.rendering_page.specs.Cursors.{to_come}
use Rattle.rendering_page.proofs.page_characters.next.Given as goal

abbrev pub invariant-loop-text : goal.invariant-loop-text
invariant-loop-text l = (to_come l.pieces l.index (chars l.text) ≡ to_come l.pieces l.fn.index (chars l.fn.text)) × shadow (Utf8 l.text)

abbrev pub decreases-loop-text : goal.decreases-loop-text
decreases-loop-text l = length l.pieces - l.index
