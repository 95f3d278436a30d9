use Rattle.std.proofs.Common.{◌≡◌, take, drop}
use Rattle.biblatex_lists.specs.Parts.{cut, before_first}
use Rattle.biblatex_lists.proofs.parting.split_at_and.Given as goal

abbrev pub invariant-loop-i : goal.invariant-loop-i
invariant-loop-i l = cut l.text ≡ before_first (take l.i l.text) (cut (drop l.i l.text))
