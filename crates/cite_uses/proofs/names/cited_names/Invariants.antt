use Rattle.std.proofs.Common.{◌≡◌, ◌++◌, drop, map}
use Rattle.cite_markers.specs.Views.{document_view, piece_view}
use Rattle.cite_requests.specs.Markers.{names_cited}
use Rattle.cite_uses.specs.Alike.{now_of}
use Rattle.cite_uses.proofs.names.cited_names.Given as goal

abbrev pub invariant-loop-piece : goal.invariant-loop-piece
invariant-loop-piece l = map now_of l.names.items ++ names_cited (map piece_view (drop l.piece-index l.document.pieces.items)) ≡ names_cited (document_view l.document)
