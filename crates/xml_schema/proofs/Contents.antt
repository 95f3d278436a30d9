-- One level of an element, and what is in it.
use Rattle.std.proofs.Common.{◌≡◌, ℕ, List, String, Global, refl, rules}
use Rattle.std.proofs.lemmas.List.Recursion.{is_count_by}
use Rattle.std.specs.List.{count_by}
use Rattle.laws.specs.Text.{characters}
use Rattle.xml_tree.specs.Trees.{Tagged, content_of}
use Rattle.xml_tree.specs.Views.{full_name_view, attributes_view, element_view, children_of, children_view}
use Rattle.xml_tree.specs.declared.tree.Element.{Element, out-Element, the_lemmas}
use Rattle.xml_schema.specs.Faults.{name_of, is_named, count_called}

-- an element that is taken apart
pub element_opened : (e : Element) → element_view e ≡ Tagged (out-Element e).left (full_name_view (out-Element e).name) (attributes_view (out-Element e).attributes) (content_of (children_view (out-Element e).children) (characters (out-Element e).text))
element_opened e = search (rules, the_lemmas)

-- how many elements of a name there are
pub called_counted : (of_schema name : List ℕ) (ps : List (String Global × Element)) (t : List ℕ)
    → count_called of_schema name (content_of (children_of ps) t) ≡ count_by (λ (p : String Global × Element). is_named of_schema name (name_of (element_view p.1))) ps
called_counted of_schema name ps t = is_count_by (λ (qs : List (String Global × Element)). count_called of_schema name (content_of (children_of qs) t)) (λ (p : String Global × Element). is_named of_schema name (name_of (element_view p.1))) refl (λ p qs. refl) ps
