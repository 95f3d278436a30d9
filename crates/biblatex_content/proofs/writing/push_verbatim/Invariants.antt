use Rattle.std.proofs.Common.{◌≡◌, ◌++◌, drop}
use Rattle.biblatex_content.specs.Views.{styled}
use Rattle.laws.specs.Text.{characters}
use Rattle.biblatex_content.specs.Writing.{written_verbatim}
use Rattle.biblatex_content.proofs.writing.push_verbatim.Given as goal

abbrev pub invariant-loop-chunk : goal.invariant-loop-chunk
invariant-loop-chunk l = characters l.text ++ written_verbatim (styled (drop l.chunk-index l.chunks)) ≡ characters l.fn.text ++ written_verbatim (styled l.chunks)
