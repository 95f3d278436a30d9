use Rattle.std.proofs.Common.{◌≡◌, drop}
use Rattle.std.specs.List.{list_any}
use Rattle.biblatex_typography.specs.Changes.{chunk_is_marked}
use Rattle.biblatex_typography.proofs.changes.have_mark.Given as goal

abbrev pub invariant-loop-chunk : goal.invariant-loop-chunk
invariant-loop-chunk l = list_any chunk_is_marked (drop l.chunk-index l.chunks) ≡ list_any chunk_is_marked l.chunks
