use Rattle.std.proofs.Common.{◌≡◌, ◌++◌, length}
use Rattle.laws.specs.Borrowed.{borrowed}
use Rattle.biblatex_lists.specs.Words.{cut_at}
use Rattle.biblatex_lists.proofs.words.cut_at.Given as goal

abbrev pub invariant-loop-part : goal.invariant-loop-part
invariant-loop-part l = borrowed l.parts.items ++ cut_at l.mark l.rest ≡ cut_at l.mark l.text

abbrev pub decreases-loop-part : goal.decreases-loop-part
decreases-loop-part l = length l.rest
