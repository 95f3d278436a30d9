use Rattle.std.proofs.Common.{length}
use Rattle.std.specs.Str.{chars}
use Rattle.biblatex_tex.specs.TokenViews.{left}
use Rattle.biblatex_content.specs.OrdinaryViews.{state_view}
use Rattle.biblatex_content.proofs.OrdinaryStreams.{Streams}
use Rattle.biblatex_content.proofs.ordinary.streamed.Given as goal

abbrev pub invariant-loop-reading : goal.invariant-loop-reading
invariant-loop-reading l = Streams (chars l.piece) (left l.lexer) (state_view l.reading)

abbrev pub decreases-loop-reading : goal.decreases-loop-reading
decreases-loop-reading l = length (left l.lexer)
