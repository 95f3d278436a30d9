use Rattle.std.proofs.Common.{◌≡◌, replicate}
use Rattle.biblatex_fields.specs.declared.openings.Opening.TheVariants.{Whole}
use Rattle.biblatex_fields.proofs.openings.all_whole.Given as goal

abbrev pub invariant-loop : goal.invariant-loop
invariant-loop l = l.openings.items ≡ replicate l.counter Whole
