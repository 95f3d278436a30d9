use Rattle.std.proofs.Common.{◌≡◌, ◌++◌, length, reverse}
use Rattle.biblatex_tex.proofs.accent.push_reversed.Given as goal

abbrev pub invariant-loop-c : goal.invariant-loop-c
invariant-loop-c l = l.text.items ++ reverse l.more.items ≡ l.fn.text.items ++ reverse l.fn.more.items

abbrev pub decreases-loop-c : goal.decreases-loop-c
decreases-loop-c l = length l.more.items
