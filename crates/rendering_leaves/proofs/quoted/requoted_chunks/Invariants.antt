use Rattle.std.proofs.Common.{◌≡◌, map, take}
use Rattle.literature_values.specs.TextViews.{chunk_view}
use Rattle.rendering_leaves.specs.Quoted as specs
use Rattle.rendering_leaves.proofs.quoted.requoted_chunks.Given as goal

abbrev pub invariant-loop-chunk : goal.invariant-loop-chunk
invariant-loop-chunk l = map chunk_view l.written.items ≡ specs.requoted_chunks l.locales l.inner (map chunk_view (take l.chunk-index l.chunks))
