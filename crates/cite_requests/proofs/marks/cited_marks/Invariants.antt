use Rattle.std.proofs.Common.{◌≡◌, false, drop, length, map, replicate}
use Rattle.biblatex.specs.Bibliographies.{listed_view}
use Rattle.cite_markers.specs.Views.{piece_view, document_view}
use Rattle.cite_requests.specs.Cited.{marked_pieces}
use Rattle.cite_requests.proofs.marks.cited_marks.Given as goal

abbrev pub invariant-loop-piece : goal.invariant-loop-piece
invariant-loop-piece l =
    let file = listed_view l.file in
    marked_pieces file l.marks.items (map piece_view (drop l.piece-index l.document.pieces.items)) ≡ marked_pieces file (replicate (length file.entries) false) (document_view l.document)
