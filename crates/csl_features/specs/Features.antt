-- What a style asks for and is not carried out, by the elements that ask for it, in the order of the text. Names and words are bytes.
use Rattle.std.specs.Prelude.{ℕ, Bool, true, ◌==◌, ◌&&◌, List, [], ◌∷◌, ◌++◌, length, map, filter, flat_map, is_some, if◌then◌else◌}
use Rattle.std.specs.List.{list_any}
use Rattle.std.specs.Str.{bytes_eq}
use Rattle.xml_tree.specs.Trees.{Element, Tagged, Content, Last, Next}
use Rattle.xml_schema.specs.Faults.{left_at, name_of}
use Rattle.csl_words.specs.Elements.{is_called, part_called}
use Rattle.csl_words.specs.Looking.{Word, attribute, words_in}
use Rattle.csl_locales.specs.Words.{is_passed}
use Rattle.csl_features.specs.declared.rows.TheConstants.{FEATURES}

-- an attribute, and a word in its value; where a text is empty, nothing is wanted there
pub record Wanted : Type 0 where
  pub attribute : List ℕ
  pub word : List ℕ

-- A row of the table: an element of this name that has both of these attributes, and an element of this name in it, asks for the feature of
-- this name. Where a text is empty, nothing is wanted there.
pub record Row : Type 0 where
  pub element : List ℕ
  pub first : Wanted
  pub second : Wanted
  pub inside : List ℕ
  pub name : List ℕ

-- what a constant has of an attribute, and a row of it
abbrev pub wanted : Word × Word → Wanted
wanted w = record { attribute = w.0.now; word = w.1.now }

abbrev pub row : Word × (Word × Word) × (Word × Word) × Word × Word → Row
row (element, first, second, inside, name) = record { element = element.now; first = wanted first; second = wanted second; inside = inside.now; name = name.now }

-- all of them, in order
abbrev pub rows : List Row
rows = map row FEATURES.now

-- nothing is wanted
abbrev pub is_open : List ℕ → Bool
is_open t = length t == 0

-- an element has that name
abbrev pub has_name : List ℕ → Element → Bool
has_name name e = if is_open name then true else is_called name (name_of e)

-- that word is among those in the value of an attribute
abbrev pub has_word : List ℕ → List ℕ → Element → Bool
has_word name word e = if is_open word then true else list_any (bytes_eq word) (words_in name e)

-- it has that attribute, with that word in its value
abbrev pub has_wanted : Wanted → Element → Bool
has_wanted w e = if is_open w.attribute then true else is_some (attribute w.attribute e) && has_word w.attribute w.word e

-- an element of that name is in it
abbrev pub has_part : List ℕ → Element → Bool
has_part name e = if is_open name then true else is_some (part_called name e)

-- an element asks for the feature of a row
abbrev pub asks : Element → Row → Bool
asks e r = has_name r.element e && (has_part r.inside e && (has_wanted r.first e && has_wanted r.second e))

-- a feature, and where the start-tag of the element that asks for it begins: how many bytes of the text are left there
pub record Feature : Type 0 where
  pub left : ℕ
  pub name : List ℕ

-- those of an element by rows
abbrev pub features_by : Element → List Row → List Feature
features_by e rs = map (λ (r : Row). record { left = left_at e; name = r.name }) (filter (asks e) rs)

-- those of an element by itself
abbrev pub own_features : Element → List Feature
own_features e = features_by e rows

abbrev mutual
  -- an element and those in it, in the order of the text, but for `info` and elements of other namespaces with all that is in these
  pub elements : Element → List Element
  elements (Tagged left n attributes content) = if is_passed n then [] else Tagged left n attributes content ∷ elements_in content

  pub elements_in : Content → List Element
  elements_in (Last t) = []
  elements_in (Next t e c) = elements e ++ elements_in c

-- those of a style, by its root
abbrev pub features : Element → List Feature
features root = flat_map own_features (elements root)
