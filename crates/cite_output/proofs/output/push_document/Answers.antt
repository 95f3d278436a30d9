use Rattle.std.proofs.Common.{◌+◌, List, ◌∷◌, drop, map, sym, ap, ◌∙◌, arith}
use Rattle.std.proofs.lemmas.List.{at_drop_more, drop_all}
use Rattle.driver.specs.Finish.{Citation}
use Rattle.driver.specs.RenderedViews.{rendered_citation_view}
use Rattle.cite_markers.specs.Views.{piece_view}
use Rattle.cite_markers.specs.declared.document.Piece.{Piece}
use Rattle.cite_output.specs.Output.{document_text}
use Rattle.cite_output.specs.Pieces.{citations_after}
use Rattle.cite_output.proofs.OutputPieces.{no_piece, piece_first, writes_same}
use Rattle.cite_output.proofs.output.push_document.Goals as goal

pub loop-piece-preserved : goal.loop-piece-preserved
loop-piece-preserved g c = λ u written.
    let took = g.T.TextTarget.takes in
    let format = c.args.format in
    let i = c.loop-piece.piece-index in
    let xs = c.args.pieces.now in
    let here = c.piece-item.result in
    let left = map rendered_citation_view c.loop-piece.left.now in
    let later = map rendered_citation_view c.citations_after-left.result.now in
    let rest = map piece_view (drop (i + 1) xs) in
    let pieces = λ (ys : List Piece). document_text format (map piece_view ys) left in
    let cut = at_drop_more pieces xs i here c.loop-piece-test.true ∙ ap (λ (y : Piece). pieces (y ∷ drop (i + 1) xs)) (sym c.piece-item.is) in
    let others = writes_same took c.push_piece.new.target (document_text format rest later) (document_text format rest (citations_after (piece_view here) left)) u
    (ap (λ (cs : List Citation). document_text format rest cs) c.citations_after-left.ensures) written in
    c.loop-piece.invariant u
    (writes_same took c.loop-piece.target _ (document_text format (map piece_view (drop i xs)) left) u (sym cut)
    (piece_first took format (piece_view here) rest left c.loop-piece.target c.push_piece.new.target u c.push_piece.ensures others))

pub returns : goal.returns
returns g c =
    let xs = c.args.pieces.now in
    let i = c.loop-piece.piece-index in
    c.loop-piece.invariant c.loop-piece.target
    (no_piece g.T.TextTarget.takes c.args.format (map piece_view (drop i xs)) (map rendered_citation_view c.loop-piece.left.now) c.loop-piece.target (ap (map piece_view) (drop_all i xs (omega (arith, c.loop-piece-test.false)))))
