use Rattle.std.proofs.Common.{◌≡◌, take}
use Rattle.laws.specs.Borrowed.{borrowed}
use Rattle.biblatex_lists.specs.Words.{lead_count}
use Rattle.biblatex_lists.proofs.words.lead_count.Given as goal

abbrev pub invariant-loop-i : goal.invariant-loop-i
invariant-loop-i l = lead_count (borrowed l.words) ≡ lead_count (borrowed (take l.i l.words))
