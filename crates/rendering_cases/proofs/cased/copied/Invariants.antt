use Rattle.std.proofs.Common.{◌≡◌, map, take}
use Rattle.literature_values.specs.TextViews.{chunk_view}
use Rattle.rendering_cases.proofs.cased.copied.Given as goal

abbrev pub invariant-loop-chunk : goal.invariant-loop-chunk
invariant-loop-chunk l = map chunk_view l.copied.items ≡ map chunk_view (take l.chunk-index l.chunks)
