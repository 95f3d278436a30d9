use Rattle.std.proofs.Common.{◌≡◌, ◌++◌, length}
use Rattle.cite_csl_styles.specs.Sources.{joined}
use Rattle.cite_csl_styles.specs.Views.{sources_view}
use Rattle.cite_csl_styles.proofs.sources.joined.Given as goal

abbrev pub invariant-loop-rest : goal.invariant-loop-rest
invariant-loop-rest l = l.bytes.items ++ joined (sources_view l.rest) ≡ joined (sources_view l.files)

abbrev pub decreases-loop-rest : goal.decreases-loop-rest
decreases-loop-rest l = length l.rest
