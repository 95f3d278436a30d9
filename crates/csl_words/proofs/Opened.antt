-- What is in an element, as code has it.
use Rattle.std.proofs.Common.{◌≡◌, ℕ, List, String, Global, sym, ap, ◌∙◌}
use Rattle.laws.specs.Text.{characters}
use Rattle.xml_tree.specs.Trees as trees
use Rattle.xml_tree.specs.Trees.{Content, content_of}
use Rattle.xml_tree.specs.Views.{element_view, children_of, children_view}
use Rattle.xml_tree.specs.declared.tree.Element.{Element, out-Element}
use Rattle.xml_schema.proofs.Contents.{element_opened}
use Rattle.csl_words.specs.Elements.{content_in}

-- the elements in an element, and the text after them
pub content_opened : (e : Element) (ps : List (String Global × Element)) → ps ≡ (out-Element e).children.items → (t : List ℕ) × (content_in (element_view e) ≡ content_of (children_of ps) t)
content_opened e ps same =
    let t : List ℕ = characters (out-Element e).text in
    (t, ap content_in (element_opened e) ∙ ap (λ (qs : List (String Global × Element)). content_of (children_of qs) t) (sym same))
