-- Trees of the code as plain data. Texts are viewed as their characters.
use Rattle.std.specs.Global.{Global}
use Rattle.std.specs.Prelude.{ℕ, List, map, Vec}
use Rattle.std.specs.Option.{option_map}
use Rattle.laws.specs.Text.{characters}
use Rattle.literature_values.specs.PersonViews.{person_view}
use Rattle.literature_values.specs.declared.person.Person.{Person}
use Rattle.rendering_taxonomy.specs.declared.formatting.Formatting.{Formatting}
use Rattle.rendering_taxonomy.specs.declared.variable.NameVariable.{NameVariable}
use Rattle.rendering_tree.specs.Metas as metas
use Rattle.rendering_tree.specs.Metas.{Meta, Answered}
use Rattle.rendering_tree.specs.Trees as trees
use Rattle.rendering_tree.specs.Trees.{Child, Children, Element, children_of}
use Rattle.rendering_tree.specs.declared.element.Formatted.{Formatted}
use Rattle.rendering_tree.specs.declared.element.ElemMeta.{ElemMeta}
use Rattle.rendering_tree.specs.declared.element.ElemMeta.TheVariants as kinds
use Rattle.rendering_tree.specs.declared.element.Elem.{Elem}
use Rattle.rendering_tree.specs.declared.element.ElemChildren.{ElemChildren}
use Rattle.rendering_tree.specs.declared.element.ElemChild.{ElemChild, fold-ElemChild}
use Rattle.rendering_tree.specs.declared.element.ElemChild.TheOpen.{Elem-F, ElemChildren-F, ElemChild-F}

-- people, and the variable that they answer
abbrev pub answered_view : Vec Person Global × NameVariable → Answered
answered_view a = (map person_view a.0.items, a.1)

-- what an element stands for
abbrev pub meta_view : ElemMeta → Meta
meta_view (kinds.Names names) = metas.Names (map answered_view names.items)
meta_view (kinds.NameVariable v) = metas.NameVariableOf v
meta_view (kinds.Name v n) = metas.Name v n
meta_view (kinds.Entry n) = metas.Entry n
meta_view kinds.Date = metas.Date
meta_view kinds.Text = metas.Text
meta_view kinds.Number = metas.Number
meta_view kinds.Label = metas.Label
meta_view kinds.CitationNumber = metas.CitationNumber
meta_view kinds.CitationLabel = metas.CitationLabel

-- a text with its formatting
abbrev pub formatted_view : Formatted → Formatting × List ℕ
formatted_view t = (t.formatting, characters t.text)

-- one level of an element, its children already viewed
abbrev pub element_step : Elem-F Child Element Children → Element
element_step e = record { display = e.display; meta = option_map meta_view e.meta; children = e.children }

-- one level of a list, each child already viewed
abbrev pub children_step : ElemChildren-F Child Element Children → Children
children_step cs = children_of cs.0.items

-- one level of a child, an element in it already viewed
abbrev pub child_step : ElemChild-F Child Element Children → Child
child_step (ElemChild-F.Text t) = trees.Text t.formatting (characters t.text)
child_step (ElemChild-F.Elem e) = trees.Elem e.display e.meta e.children
child_step (ElemChild-F.Markup s) = trees.Markup (characters s)
child_step (ElemChild-F.Link t url) = trees.Link t.formatting (characters t.text) (characters url)
child_step (ElemChild-F.Transparent n f) = trees.Transparent f n

-- a child
abbrev pub child_view : ElemChild → Child
child_view = fold-ElemChild Child Element Children child_step element_step children_step

-- children one after the other
abbrev pub children_view : List ElemChild → Children
children_view xs = children_of (map child_view xs)

-- a list
abbrev pub tree_view : ElemChildren → Children
tree_view cs = children_view cs.0.items

-- an element
abbrev pub element_view : Elem → Element
element_view e = record { display = e.display; meta = option_map meta_view e.meta; children = tree_view e.children }
