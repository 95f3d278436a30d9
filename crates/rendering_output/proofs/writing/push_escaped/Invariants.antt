use Rattle.std.specs.Prelude.{length}
use denote.Text.{Utf8}
use denote.Shadow.{shadow}
use Rattle.std.specs.Str.{chars}
use Rattle.laws.specs.Runs.{Bars}
use Rattle.rendering_output.specs.Writing.{stands_as_it_is, LeavesEscaped}
use Rattle.rendering_output.proofs.writing.push_escaped.Given as goal

abbrev pub invariant-loop-c : goal.invariant-loop-c
invariant-loop-c g l =
    LeavesEscaped g.T.TextTarget.takes l.fn.target (chars l.text) l.target (chars l.rest) × (Bars stands_as_it_is (chars l.rest) × shadow (Utf8 l.rest))

abbrev pub decreases-loop-c : goal.decreases-loop-c
decreases-loop-c g l = length (chars l.rest)
