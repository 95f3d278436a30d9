use Rattle.std.proofs.Common.{length}
use Rattle.std.specs.Str.{chars}
use Rattle.texts.specs.Views.{left}
use Rattle.literature_values.specs.PersonViews.{initials_style_view, shown_view}
use Rattle.literature_values.proofs.GivenNameSteps.{GivenSoFar}
use Rattle.literature_values.proofs.given_name.write_pieces.Given as goal

abbrev pub invariant-loop-next : goal.invariant-loop-next
invariant-loop-next g l =
    GivenSoFar g.W.Write.write_str_gives l.fn.writer l.cuts (initials_style_view l.style) (chars l.given) (shown_view l.last) (left l.reader) l.writer

abbrev pub decreases-loop-next : goal.decreases-loop-next
decreases-loop-next g l = length (left l.reader)
