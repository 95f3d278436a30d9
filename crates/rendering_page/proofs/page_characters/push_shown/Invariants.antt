use Rattle.std.proofs.Common.{◌≡◌, ◌++◌, take}
use Rattle.std.specs.List.{flat_map}
use Rattle.laws.specs.Text.{characters}
use Rattle.rendering_page.specs.Cursors.{shown_of}
use Rattle.rendering_page.proofs.page_characters.push_shown.Given as goal

abbrev pub invariant-loop-piece : goal.invariant-loop-piece
invariant-loop-piece l = characters l.output ≡ characters l.fn.output ++ flat_map shown_of (take l.piece-index l.pieces)
