use Rattle.std.proofs.Common.{◌≡◌, drop}
use Rattle.biblatex_lists.specs.Parts.{without_first_gaps}
use Rattle.biblatex_lists.proofs.parting.without_first_gaps.Given as goal

abbrev pub invariant-loop-i : goal.invariant-loop-i
invariant-loop-i l = without_first_gaps l.text ≡ without_first_gaps (drop l.i l.text)
