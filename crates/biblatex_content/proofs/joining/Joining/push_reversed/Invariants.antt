use Rattle.std.proofs.Common.{◌≡◌, ◌++◌, length, reverse}
use Rattle.biblatex_content.specs.Styled.{letters}
use Rattle.biblatex_content.specs.Views.{joined}
use Rattle.biblatex_content.proofs.joining.Joining.push_reversed.Given as goal

abbrev pub invariant-loop-c : goal.invariant-loop-c
invariant-loop-c l = joined l.self ++ letters l.kind (reverse l.cs.items) ≡ joined l.fn.self ++ letters l.kind (reverse l.fn.cs.items)

abbrev pub decreases-loop-c : goal.decreases-loop-c
decreases-loop-c l = length l.cs.items
