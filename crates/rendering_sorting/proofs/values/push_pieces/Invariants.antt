use Rattle.std.proofs.Common.{◌≡◌, ◌++◌, map, take}
use Rattle.laws.specs.Text.{characters}
use Rattle.literature_values.specs.TextViews.{chunk_view}
use Rattle.rendering_entries.specs.Library.{characters_of}
use Rattle.rendering_sorting.proofs.values.push_pieces.Given as goal

abbrev pub invariant-loop-piece : goal.invariant-loop-piece
invariant-loop-piece l = characters l.text ≡ characters l.fn.text ++ characters_of (map chunk_view (take l.piece-index l.pieces))
