use Rattle.std.proofs.Common.{◌≡◌, ◌≤◌, length}
use Rattle.texts.specs.Views.{left}
use Rattle.literature_values.specs.GivenNames.{all_shown}
use Rattle.literature_values.proofs.given_name.next_shown.Given as goal

abbrev pub invariant-loop-piece : goal.invariant-loop-piece
invariant-loop-piece l = (all_shown l.cuts (left l.initial.reader) ≡ all_shown l.cuts (left l.reader)) × (length (left l.reader) ≤ length (left l.initial.reader))

abbrev pub decreases-loop-piece : goal.decreases-loop-piece
decreases-loop-piece l = length (left l.reader)
