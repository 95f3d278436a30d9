use Rattle.std.proofs.Common.{drop}
use Rattle.std.specs.Fmt.{WritesInCalls}
use Rattle.laws.specs.Text.{text}
use Rattle.biblatex_content.specs.Views.{styled}
use Rattle.biblatex_content.specs.Writing.{written_verbatim}
use Rattle.biblatex_writing.proofs.content.push_verbatim.Given as goal

abbrev pub invariant-loop-chunk : goal.invariant-loop-chunk
invariant-loop-chunk g l =
    (u : g.row.T.Denot) → WritesInCalls g.T.Target.takes l.target (text (written_verbatim (styled (drop l.chunk-index l.chunks)))) u
    → WritesInCalls g.T.Target.takes l.fn.target (text (written_verbatim (styled l.chunks))) u
