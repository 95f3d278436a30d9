-- The elements of a name that stand in an element.
use Rattle.std.specs.Prelude.{ℕ, List, [], ◌∷◌, map, if◌then◌else◌}
use Rattle.std.specs.Borrow.{Bor}
use Rattle.xml_tree.specs.Trees as trees
use Rattle.xml_tree.specs.Trees.{Content, Last, Next}
use Rattle.xml_tree.specs.Views.{element_view}
use Rattle.xml_tree.specs.declared.tree.Element.{Element}
use Rattle.xml_schema.specs.Faults.{name_of}
use Rattle.csl_words.specs.Elements.{is_called, content_in}

-- all elements of that name
abbrev pub all_called : List ℕ → Content → List trees.Element
all_called name (Last t) = []
all_called name (Next t e c) = if is_called name (name_of e) then e ∷ all_called name c else all_called name c

-- all of them in an element
abbrev pub called : List ℕ → trees.Element → List trees.Element
called name e = all_called name (content_in e)

-- elements that are borrowed
abbrev pub elements_of : List (Bor Element) → List trees.Element
elements_of es = map (λ (e : Bor Element). element_view e.now) es
