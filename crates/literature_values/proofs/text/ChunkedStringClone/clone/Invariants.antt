use Rattle.std.proofs.Common.{◌≡◌, take, map}
use Rattle.literature_values.specs.TextViews.{chunk_view}
use Rattle.literature_values.proofs.text.ChunkedStringClone.clone.Given as goal

abbrev pub invariant-loop-chunk : goal.invariant-loop-chunk
invariant-loop-chunk l = map chunk_view l.copied.items ≡ map chunk_view (take l.chunk-index l.self.0.items)
