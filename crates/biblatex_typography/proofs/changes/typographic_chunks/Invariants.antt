use Rattle.std.proofs.Common.{◌≡◌, take}
use Rattle.biblatex_content.specs.Spans.{chunk_spans}
use Rattle.biblatex_content.specs.Views.{styled}
use Rattle.biblatex_content.proofs.PartedShapes.{kinds, fullness}
use Rattle.biblatex_typography.proofs.Chunks.{printed_each}
use Rattle.biblatex_typography.proofs.changes.typographic_chunks.Given as goal

abbrev pub invariant-loop-chunk : goal.invariant-loop-chunk
invariant-loop-chunk l =
    (styled l.printed.items ≡ printed_each (take l.chunk-index l.chunks))
    × (chunk_spans l.printed.items ≡ chunk_spans (take l.chunk-index l.chunks))
    × (kinds l.printed.items ≡ kinds (take l.chunk-index l.chunks))
    × (fullness l.printed.items ≡ fullness (take l.chunk-index l.chunks))
