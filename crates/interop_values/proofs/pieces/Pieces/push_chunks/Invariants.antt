use Rattle.std.proofs.Common.{◌≡◌, ◌++◌, List, drop}
use Rattle.biblatex_content.specs.Styled.{Member}
use Rattle.biblatex_content.specs.Views.{styled}
use Rattle.interop_values.specs.Views.{with_pieces}
use Rattle.interop_values.proofs.pieces.Pieces.push_chunks.Given as goal

abbrev pub invariant-loop-chunk : goal.invariant-loop-chunk
invariant-loop-chunk l = (rest : List Member) → with_pieces l.self (styled (drop l.chunk-index l.value) ++ rest) ≡ with_pieces l.fn.self (styled l.value ++ rest)
