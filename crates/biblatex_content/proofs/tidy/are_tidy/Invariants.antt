use Rattle.std.proofs.Common.{◌≡◌, true, drop}
use Rattle.biblatex_content.specs.Tidy.{is_tidy_from}
use Rattle.biblatex_content.specs.Views.{styled}
use Rattle.biblatex_content.proofs.tidy.are_tidy.Given as goal

abbrev pub invariant-loop-chunk : goal.invariant-loop-chunk
invariant-loop-chunk l = is_tidy_from l.is_after_space (styled (drop l.chunk-index l.chunks)) ≡ is_tidy_from true (styled l.chunks)
