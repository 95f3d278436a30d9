use Rattle.std.proofs.Common.{◌≡◌, drop}
use Rattle.biblatex_content.specs.Views.{styled}
use Rattle.biblatex_writing.proofs.rules.is_met_by.Given as goal

abbrev pub invariant-loop-chunk : goal.invariant-loop-chunk
invariant-loop-chunk g l = g.R.Rule.holds l.rule (styled (drop l.chunk-index l.chunks)) ≡ g.R.Rule.holds l.fn.start (styled l.chunks)
