use Rattle.std.proofs.Common.{◌≡◌, ◌++◌, eqb, not, take, drop}
use Rattle.laws.specs.Characters.{line_feed}
use Rattle.laws.specs.Runs.{prefix_of}
use Rattle.source_positions.proofs.position.before_line_feed.Given as goal

abbrev pub invariant-loop-i : goal.invariant-loop-i
invariant-loop-i l = take l.i l.rest ++ prefix_of (λ b. not (eqb b line_feed)) (drop l.i l.rest) ≡ prefix_of (λ b. not (eqb b line_feed)) l.rest
