use Rattle.std.proofs.Common.{[], map}
use Rattle.std.specs.Option.{option_map, option_map_or}
use Rattle.rendering_output.proofs.WritingCalls.{writes_more}
use Rattle.driver.specs.RenderedViews.{rendered_bibliography_view, rendered_citation_view}
use Rattle.cite_markers.specs.Views.{piece_view, document_view}
use Rattle.cite_output.specs.Output.{bibliography_text, document_text}
use Rattle.cite_output.proofs.OutputPieces.{writes_same}
use Rattle.cite_output.proofs.output.Output.push_to.Goals as goal

pub returns : goal.returns
returns g c =
    let took = g.T.TextTarget.takes in
    let format = c.args.self.now.format in
    let document = document_text format (document_view c.args.self.now.document) (map rendered_citation_view c.args.self.now.rendered.citations.items) in
    let bibliography = option_map_or (bibliography_text format) (option_map rendered_bibliography_view c.args.self.now.rendered.bibliography) [] in
    let first = writes_same took c.args.target.now _ document c.push_document.new.target (λ i. document_text format (map piece_view (c.deref.ensures.value i)) (map rendered_citation_view (c.deref-2.ensures.value i))) c.push_document.ensures in
    writes_more took c.args.target.now document c.push_document.new.target bibliography c.push_bibliography.new.target first c.push_bibliography.ensures
