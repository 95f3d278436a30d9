use Rattle.std.proofs.Common.{◌≡◌, ◌+◌, drop}
use Rattle.laws.specs.Borrowed.{borrowed}
use Rattle.biblatex_lists.specs.Words.{small_at}
use Rattle.biblatex_lists.proofs.words.small_at.Given as goal

abbrev pub invariant-loop-i : goal.invariant-loop-i
invariant-loop-i l = small_at (borrowed l.words) ≡ l.i + small_at (borrowed (drop l.i l.words))
