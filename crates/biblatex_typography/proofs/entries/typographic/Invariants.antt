use Rattle.std.proofs.Common.{◌≡◌}
use Rattle.biblatex_typography.proofs.Fields.{AreChanged}
use Rattle.biblatex_typography.proofs.entries.typographic.Given as goal

abbrev pub invariant-loop-index : goal.invariant-loop-index
invariant-loop-index l = AreChanged l.fn.file.entries l.file.entries l.index × (l.file.names ≡ l.fn.file.names)
