use Rattle.std.proofs.Common.{length, map}
use Rattle.std.specs.Str.{chars}
use Rattle.laws.specs.Steps.{each}
use Rattle.texts.specs.Views.{left}
use Rattle.cite_markers.specs.Document.{piece_at}
use Rattle.cite_markers.specs.Views.{piece_view}
use Rattle.laws.proofs.Gathering.{Gathers}
use Rattle.cite_markers.proofs.Leaving.{Leaves}
use Rattle.cite_markers.proofs.document.Document.parse.Given as goal

abbrev pub invariant-loop-piece : goal.invariant-loop-piece
invariant-loop-piece l = Gathers piece_at (map piece_view l.pieces.items) (left l.reader) (each piece_at (chars l.text)) × Leaves (chars l.text) (left l.reader)

abbrev pub decreases-loop-piece : goal.decreases-loop-piece
decreases-loop-piece l = length (left l.reader)
