use Rattle.std.proofs.Common.{◌≡◌, drop}
use Rattle.biblatex_lists.specs.Writing.{holds, is_loose}
use Rattle.biblatex_lists.proofs.writing.holds_loose.Given as goal

abbrev pub invariant-loop-i : goal.invariant-loop-i
invariant-loop-i l = holds is_loose l.text ≡ holds is_loose (drop l.i l.text)
