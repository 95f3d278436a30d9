use Rattle.std.proofs.Common.{◌≡◌, take}
use Rattle.biblatex_lists.specs.Parts.{without_last_gaps}
use Rattle.biblatex_lists.proofs.parting.without_last_gaps.Given as goal

abbrev pub invariant-loop-i : goal.invariant-loop-i
invariant-loop-i l = without_last_gaps l.text ≡ without_last_gaps (take l.i l.text)
