use Rattle.std.proofs.Common.{drop, map}
use Rattle.rendering_output.specs.Writing.{WritesCharacters}
use Rattle.cite_markers.specs.Views.{piece_view}
use Rattle.driver.specs.RenderedViews.{rendered_citation_view}
use Rattle.cite_output.specs.Output.{document_text}
use Rattle.cite_output.proofs.output.push_document.Given as goal

abbrev pub invariant-loop-piece : goal.invariant-loop-piece
invariant-loop-piece g l =
    (u : g.row.T.Denot) → WritesCharacters g.T.TextTarget.takes l.target (document_text l.format (map piece_view (drop l.piece-index l.pieces)) (map rendered_citation_view l.left)) u
    → WritesCharacters g.T.TextTarget.takes l.fn.target (document_text l.format (map piece_view l.pieces) (map rendered_citation_view l.citations)) u
