-- The language that an element says it is in. A code of a language is bytes, names and values of a tree are characters.
use Rattle.std.specs.Prelude.{ℕ, Bool, ◌&&◌, List, Option, codes}
use Rattle.std.specs.List.{find}
use Rattle.std.specs.Option.{option_map}
use Rattle.std.specs.Str.{bytes_eq}
use Rattle.laws.specs.Text.{text}
use Rattle.xml_text.specs.Tokens.{At}
use Rattle.xml_tree.specs.Trees.{Attribute, Element, Tagged}
use Rattle.xml_tree.specs.Scope.{xml_space, is_word}

-- an attribute has that local name, and the prefix xml
abbrev pub is_of_xml : List ℕ → At Attribute → Bool
is_of_xml name a = is_word xml_space a.v.name.space && bytes_eq (text a.v.name.local) name

-- the value of the first of them, if there is one
abbrev pub xml_value : List ℕ → List (At Attribute) → Option (List ℕ)
xml_value name attributes = option_map (λ (a : At Attribute). a.v.value) (find (is_of_xml name) attributes)

-- the code of the language of an element, by its xml:lang, if it has one
abbrev pub language : Element → Option (List ℕ)
language (Tagged left n attributes content) = option_map text (xml_value (codes "lang") attributes)
