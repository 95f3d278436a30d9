-- Outputs of the code, and what a piece of a document comes to.
use Rattle.std.specs.Prelude.{ℕ, List, [], ◌∷◌}
use Rattle.laws.specs.Text.{text}
use Rattle.rendering_output.specs.declared.writing.BufWriteFormat.{BufWriteFormat}
use Rattle.driver.specs.Finish.{Citation}
use Rattle.driver.specs.RenderedViews.{rendered_view}
use Rattle.cite_markers.specs.Document as document
use Rattle.cite_markers.specs.Document.{Piece}
use Rattle.cite_markers.specs.Views.{document_view}
use Rattle.cite_output.specs.Output.{output_text, tree_text}
use Rattle.cite_output.specs.declared.output.Output.{Output}

-- the bytes of an output
abbrev pub output_of : Output → List ℕ
output_of o = text (output_text o.format (document_view o.document) (rendered_view o.rendered))

-- what a piece comes to where these citations are left, and those that are left after it
abbrev pub piece_text : BufWriteFormat → Piece → List Citation → List ℕ
piece_text format (document.Text t) citations = t
piece_text format (document.Marker cites) [] = []
piece_text format (document.Marker cites) (c ∷ citations) = tree_text format c.tree

abbrev pub citations_after : Piece → List Citation → List Citation
citations_after (document.Text t) citations = citations
citations_after (document.Marker cites) [] = []
citations_after (document.Marker cites) (c ∷ citations) = citations
