use Rattle.std.proofs.Common.{◌≡◌, false, drop}
use Rattle.biblatex_content.specs.Views.{styled}
use Rattle.biblatex_content.specs.Writing.{written_after}
use Rattle.biblatex_content.proofs.writing.push_ordinary.Given as goal

abbrev pub invariant-loop-chunk : goal.invariant-loop-chunk
invariant-loop-chunk l = written_after l.text l.is_open (styled (drop l.chunk-index l.chunks)) ≡ written_after l.fn.text false (styled l.chunks)
