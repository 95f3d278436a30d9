use Rattle.std.proofs.Common.{◌≡◌, map, length}
use Rattle.std.specs.Vec.Iter.{into_iter_items, into_iter_len}
use Rattle.literature_values.specs.TextViews.{chunk_view}
use Rattle.rendering_page.specs.Pieces.{append_pieces, each_piece, further_piece}
use Rattle.rendering_page.specs.Views.{manner_view, quotes_view}
use Rattle.rendering_page.proofs.page.Page.push_each_made_chunk.Given as goal

abbrev pub invariant-loop-chunk : goal.invariant-loop-chunk
invariant-loop-chunk l = record {
  same : append_pieces (quotes_view l.quotes) (map (further_piece (manner_view l.manner)) (map chunk_view (into_iter_items l.chunk-iterator))) l.self
      ≡ append_pieces (quotes_view l.quotes) (each_piece (manner_view l.manner) (map chunk_view l.fn.chunks.0.items)) l.fn.self;
  long : into_iter_len l.chunk-iterator ≡ length (into_iter_items l.chunk-iterator);
}
