-- One level of the view of an element.
use Rattle.std.proofs.Common.{◌≡◌, List, [], ◌∷◌, ◌++◌, map, String, Global, ap, ◌∙◌, rules}
use Rattle.std.proofs.lemmas.List.{map_push}
use Rattle.laws.specs.Text.{characters}
use Rattle.xml_tree.specs.Trees.{Tagged, content_of}
use Rattle.xml_tree.specs.Views.{full_name_view, attributes_view, texted, element_view, children_of, children_view}
use Rattle.xml_tree.specs.declared.tree.Element.{Element, roll-Element, the_lemmas}
use Rattle.xml_tree.specs.declared.tree.Element.TheOpen.{Element-F}

-- an element that was put together
pub element_rolled : (r : Element-F Element) → element_view (roll-Element r) ≡ Tagged r.left (full_name_view r.name) (attributes_view r.attributes) (content_of (children_view r.children) (characters r.text))
element_rolled r = search (rules, the_lemmas)

-- one more element, with the text before it
pub children_pushed : (ps : List (String Global × Element)) (text : String Global) (e : Element) → children_of (ps ++ (text, e) ∷ []) ≡ children_of ps ++ (characters text, element_view e) ∷ []
children_pushed ps text e =
    ap (map texted) (map_push (λ (p : String Global × Element). (p.0, element_view p.1)) ps (text, e))
    ∙ map_push texted (map (λ (p : String Global × Element). (p.0, element_view p.1)) ps) (text, element_view e)
