use Rattle.std.proofs.Common.{length}
use Rattle.texts.specs.Views.{left}
use Rattle.literature_values.specs.PersonViews.{initials_style_view}
use Rattle.literature_values.proofs.InitialsSteps.{WritesSoFar}
use Rattle.std.specs.Str.{chars}
use Rattle.literature_values.proofs.person.write_initials.Given as goal

abbrev pub invariant-loop-run : goal.invariant-loop-run
invariant-loop-run g l = WritesSoFar g.W.Write.write_str_gives l.fn.writer (initials_style_view l.style) (chars l.given) (left l.reader) l.writer

abbrev pub decreases-loop-run : goal.decreases-loop-run
decreases-loop-run g l = length (left l.reader)
