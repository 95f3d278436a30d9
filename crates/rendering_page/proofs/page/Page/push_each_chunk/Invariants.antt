use Rattle.std.proofs.Common.{◌≡◌, map, drop}
use Rattle.literature_values.specs.TextViews.{chunk_view}
use Rattle.rendering_page.specs.Pieces.{append_pieces, each_piece, further_piece}
use Rattle.rendering_page.specs.Views.{manner_view, quotes_view}
use Rattle.rendering_page.proofs.page.Page.push_each_chunk.Given as goal

abbrev pub invariant-loop-chunk : goal.invariant-loop-chunk
invariant-loop-chunk l =
    append_pieces (quotes_view l.quotes) (map (further_piece (manner_view l.manner)) (map chunk_view (drop l.chunk-index l.rest))) l.self
    ≡ append_pieces (quotes_view l.quotes) (each_piece (manner_view l.manner) (map chunk_view l.chunks)) l.fn.self
