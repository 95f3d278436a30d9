use Rattle.std.proofs.Common.{length}
use Rattle.laws.specs.Steps.{each}
use Rattle.texts.specs.Views.{left}
use Rattle.xml_text.specs.Tags.{piece_at}
use Rattle.xml_text.specs.Views.{pieces_view}
use Rattle.laws.proofs.Gathering.{Gathers}
use Rattle.xml_text.proofs.attribute.take_pieces.Given as goal

abbrev pub invariant-loop-pieces : goal.invariant-loop-pieces
invariant-loop-pieces l = Gathers (piece_at l.fn.quote) (pieces_view l.pieces) (left l.reader) (each (piece_at l.fn.quote) (left l.fn.reader))

abbrev pub decreases-loop-pieces : goal.decreases-loop-pieces
decreases-loop-pieces l = length (left l.reader)
