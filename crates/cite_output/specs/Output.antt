-- The output, as characters: the document with a citation instead of each marker, and the bibliography.
use Rattle.std.specs.Prelude.{ℕ, List, [], ◌∷◌, ◌++◌, Option, Some, None, codes}
use Rattle.std.specs.List.{flat_map}
use Rattle.std.specs.Option.{option_map_or}
use Rattle.laws.specs.Characters.{line_feed}
use Rattle.rendering_output.specs.Writing.{divided, tag_text}
use Rattle.rendering_output.specs.declared.writing.BufWriteFormat.{BufWriteFormat}
use Rattle.rendering_output.specs.declared.writing.BufWriteFormat.TheVariants as formats
use Rattle.rendering_tree.specs.Trees.{Children, Element}
use Rattle.rendering_tree.specs.Writing.{tags}
use Rattle.driver_bibliography.specs.Items.{Fields}
use Rattle.driver.specs.Finish.{Citation, Rendered, RenderedBibliography}
use Rattle.cite_markers.specs.Document.{Piece, Text, Marker}

-- a tree as a format writes it
abbrev pub tree_text : BufWriteFormat → Children → List ℕ
tree_text format tree = flat_map (tag_text format) (tags tree)

-- a first field as a format writes it, where there is one
abbrev pub field_text : BufWriteFormat → Option Element → List ℕ
field_text format None = []
field_text format (Some e) = flat_map (tag_text format) (divided e.display (tags e.children))

-- the texts of a document as they are, and citations instead of markers, one for each
abbrev pub document_text : BufWriteFormat → List Piece → List Citation → List ℕ
document_text format [] citations = []
document_text format (Text t ∷ pieces) citations = t ++ document_text format pieces citations
document_text format (Marker cites ∷ pieces) [] = document_text format pieces []
document_text format (Marker cites ∷ pieces) (c ∷ citations) = tree_text format c.tree ++ document_text format pieces citations

-- what stands before an item and after it
abbrev pub item_opening : BufWriteFormat → List ℕ
item_opening formats.Plain = []
item_opening formats.Html = codes "<p>"

abbrev pub item_end : BufWriteFormat → List ℕ
item_end formats.Plain = line_feed ∷ []
item_end formats.Html = codes "</p>" ++ line_feed ∷ []

-- an item, in a line
abbrev pub item_text : BufWriteFormat → Fields → List ℕ
item_text format f = item_opening format ++ (field_text format f.first_field ++ (tree_text format f.content ++ item_end format))

-- a line feed and the items
abbrev pub bibliography_text : BufWriteFormat → RenderedBibliography → List ℕ
bibliography_text format b = line_feed ∷ flat_map (item_text format) b.items

-- the document with its citations, and the bibliography where the style has one
abbrev pub output_text : BufWriteFormat → List Piece → Rendered → List ℕ
output_text format pieces r = document_text format pieces r.citations ++ option_map_or (bibliography_text format) r.bibliography []
