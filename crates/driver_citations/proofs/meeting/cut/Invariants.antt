use Rattle.std.proofs.Common.{◌≡◌}
use Rattle.laws.specs.Text.{characters}
use Rattle.driver_citations.specs.Meeting.{without_last}
use Rattle.driver_citations.proofs.meeting.cut.Given as goal

abbrev pub invariant-loop-index : goal.invariant-loop-index
invariant-loop-index l = characters l.text ≡ without_last l.index (characters l.fn.text)
