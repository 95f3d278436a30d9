use Rattle.std.proofs.Common.{◌≡◌, drop, map}
use Rattle.std.specs.List.{list_any}
use Rattle.literature_values.specs.TextViews.{chunk_view}
use Rattle.rendering_leaves.specs.Quoted.{chunk_has_quote}
use Rattle.rendering_leaves.proofs.quoted.have_quotes.Given as goal

abbrev pub invariant-loop-chunk : goal.invariant-loop-chunk
invariant-loop-chunk l = list_any chunk_has_quote (map chunk_view (drop l.chunk-index l.chunks)) ≡ list_any chunk_has_quote (map chunk_view l.chunks)
