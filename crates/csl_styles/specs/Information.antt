-- What counts of the `info` of a style: its categories, and the parent of a dependent style. The rest is passed over.
use Rattle.std.specs.Prelude.{ℕ, Bool, ◌&&◌, ◌==◌, List, [], ◌∷◌, ◌++◌, codes, if◌then◌else◌, Option, None, option_and_then, option_to_list}
use Rattle.std.specs.List.{slice_split}
use Rattle.std.specs.Option.{option_map, option_map_or, option_or}
use Rattle.laws.specs.Characters.{slash}
use Rattle.laws.specs.Text.{text}
use Rattle.xml_tree.specs.Trees.{Element, Content, Last, Next}
use Rattle.xml_schema.specs.Faults.{name_of}
use Rattle.rendering_taxonomy.specs.declared.style.StyleCategory.{StyleCategory}
use Rattle.csl_words.specs.Elements.{is_called, content_in, part_called}
use Rattle.csl_words.specs.Looking.{table, attribute, value_by, says}
use Rattle.csl_words.specs.declared.options.TheConstants.{CATEGORIES}

-- the category that an element says, if it is there for one
abbrev pub category_of : Element → Option StyleCategory
category_of e = if is_called (codes "category") (name_of e) then value_by (table CATEGORIES.now) (codes "citation-format") e else None

-- those that elements say
abbrev pub categories_in : Content → List StyleCategory
categories_in (Last t) = []
categories_in (Next t e c) = option_to_list (category_of e) ++ categories_in c

-- the categories that a style says it is of
abbrev pub categories_of : Element → List StyleCategory
categories_of e = option_map_or (λ (info : Element). categories_in (content_in info)) (part_called (codes "info") e) []

-- an element is the link to the parent of a dependent style
abbrev pub is_parent_link : Element → Bool
is_parent_link e = is_called (codes "link") (name_of e) && says (codes "rel") (codes "independent-parent") e

-- the address that it has
abbrev pub parent_address : Element → Option (List ℕ)
parent_address e = if is_parent_link e then attribute (codes "href") e else None

-- the first address of a parent among elements
abbrev pub address_in : Content → Option (List ℕ)
address_in (Last t) = None
address_in (Next t e c) = option_or (parent_address e) (address_in c)

-- the address of the parent of a style, if it has one
abbrev pub address_of : Element → Option (List ℕ)
address_of e = option_and_then (λ (info : Element). address_in (content_in info)) (part_called (codes "info") e)

-- the last of the parts of a list, of which there is one at least
abbrev pub last_or : List ℕ → List (List ℕ) → List ℕ
last_or part [] = part
last_or part (p ∷ ps) = last_or p ps

-- what follows the last slash of an address, in bytes
abbrev pub last_segment : List ℕ → List ℕ
last_segment address = last_or [] (slice_split (λ b. b == slash) (text address))

-- the name of the parent of a style, if it has one: the last segment of its address
abbrev pub parent_of : Element → Option (List ℕ)
parent_of e = option_map last_segment (address_of e)
