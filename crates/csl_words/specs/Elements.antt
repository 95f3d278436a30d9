-- Elements of CSL, by their names, and those that stand in others.
use Rattle.std.specs.Prelude.{ℕ, Bool, true, ◌&&◌, List, if◌then◌else◌, Option, Some, None, codes}
use Rattle.std.specs.Str.{bytes_eq}
use Rattle.laws.specs.Text.{text}
use Rattle.xml_tree.specs.Trees.{FullName, Element, Tagged, Content, Last, Next}
use Rattle.xml_schema.specs.Faults.{name_of}
use Rattle.csl_words.specs.Looking.{in_table}

-- the namespace of CSL
abbrev pub csl_space : List ℕ
csl_space = codes "http://purl.org/net/xbiblio/csl"

-- a namespace is that of CSL; none counts as it
abbrev pub is_csl : Option (List ℕ) → Bool
is_csl None = true
is_csl (Some space) = bytes_eq (text space) csl_space

-- a name is that one of CSL
abbrev pub is_called : List ℕ → FullName → Bool
is_called name n = is_csl n.space && bytes_eq (text n.local) name

-- what a table has for a name of CSL
abbrev pub named_by : {X : Type 0} → List (List ℕ × X) → FullName → Option X
named_by {X} rows n = if is_csl n.space then in_table rows (text n.local) else None

-- what is in an element
abbrev pub content_in : Element → Content
content_in (Tagged left name attributes content) = content

-- the first element of that name
abbrev pub first_called : List ℕ → Content → Option Element
first_called name (Last t) = None
first_called name (Next t e c) = if is_called name (name_of e) then Some e else first_called name c

-- the first element of that name in an element
abbrev pub part_called : List ℕ → Element → Option Element
part_called name e = first_called name (content_in e)
