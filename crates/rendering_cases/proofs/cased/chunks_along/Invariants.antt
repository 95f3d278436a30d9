use Rattle.std.proofs.Common.{◌≡◌, ◌++◌, drop, map}
use Rattle.literature_values.specs.TextViews.{chunk_view}
use Rattle.rendering_cases.specs.Along.{chunks_along}
use Rattle.rendering_cases.specs.Views.{place_view}
use Rattle.rendering_cases.proofs.cased.chunks_along.Given as goal

abbrev pub invariant-loop-chunk : goal.invariant-loop-chunk
invariant-loop-chunk l =
    map chunk_view l.changed.items ++ chunks_along l.case l.in_capitals (place_view l.place) (map chunk_view (drop l.chunk-index l.chunks))
    ≡ chunks_along l.case l.in_capitals (place_view l.fn.place) (map chunk_view l.chunks)
