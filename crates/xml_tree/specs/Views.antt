-- What the code has and returns, without where it lies in memory.
use Rattle.std.specs.Global.{Global}
use Rattle.std.specs.Prelude.{◌≡◌, ℕ, Bool, true, false, List, map, reverse, Option, Some, None, Vec, String, Result, Ok, Err}
use Rattle.std.specs.Borrow.{Bor}
use Rattle.std.specs.BTreeMap.{BTreeMap, get_by}
use Rattle.std.specs.Cmp.Lexicographic.{slice_cmp}
use Rattle.std.specs.Option.{option_map}
use Rattle.std.specs.Ordering.{nat_cmp}
use Rattle.std.specs.Rc.{rc_str_bytes}
use Rattle.std.specs.declared.rc.RcStr.{RcStr}
use Rattle.std.specs.Str.{chars}
use Rattle.laws.specs.Results.{EndsWith}
use Rattle.laws.specs.Text.{text, characters, spelled}
use Rattle.xml_text.specs.Tokens.{At}
use Rattle.xml_text.specs.Reading.{left_of}
use Rattle.xml_text.specs.Views.{placed_view, name_view}
use Rattle.xml_text.specs.declared.fault.XmlError.{XmlError}
use Rattle.xml_text.specs.declared.fault.XmlError.TheVariants as stops
use Rattle.xml_text.specs.declared.token.Placed.{Placed}
use Rattle.xml_tree.specs.Trees as trees
use Rattle.xml_tree.specs.Trees.{Tagged, content_of}
use Rattle.xml_tree.specs.Values.{Refusal}
use Rattle.xml_tree.specs.Names as names
use Rattle.xml_tree.specs.Building as building
use Rattle.xml_tree.specs.declared.error.TreeError.{TreeError}
use Rattle.xml_tree.specs.declared.error.TreeError.TheVariants as errors
use Rattle.xml_tree.specs.declared.tree.FullName.{FullName}
use Rattle.xml_tree.specs.declared.tree.Attribute.{Attribute}
use Rattle.xml_tree.specs.declared.tree.Element.{Element, fold-Element}
use Rattle.xml_tree.specs.declared.tree.Element.TheOpen.{Element-F}
use Rattle.xml_tree.specs.declared.bindings.Bindings.{Bindings}
use Rattle.xml_tree.specs.declared.names.Valued.{Valued}
use Rattle.xml_tree.specs.declared.names.Said.{Said}
use Rattle.xml_tree.specs.declared.building.Open.{Open}
use Rattle.xml_tree.specs.declared.building.Builder.{Builder}

-- the fault of an error and its place, if it has one
abbrev pub refusal_of : TreeError → Option Refusal
refusal_of errors.Memory = None
refusal_of (errors.Fault fault left) = Some (fault, left)

-- a text that is shared
abbrev pub shared : RcStr Global → List ℕ
shared s = chars (rc_str_bytes s)

abbrev pub space_view : Option (RcStr Global) → Option (List ℕ)
space_view space = option_map shared space

abbrev pub full_name_view : FullName → trees.FullName
full_name_view n = record { space = space_view n.space; local = spelled n.local }

abbrev pub attribute_view : Attribute → trees.Attribute
attribute_view a = record { name = full_name_view a.name; value = characters a.value }

abbrev pub attributes_view : Vec (Placed Attribute) Global → List (At trees.Attribute)
attributes_view v = map (placed_view attribute_view) v.items

-- an element and the text before it, the element already viewed
abbrev pub texted : String Global × trees.Element → List ℕ × trees.Element
texted p = (characters p.0, p.1)

-- one level of an element, the elements in it already viewed
abbrev pub element_step : Element-F trees.Element → trees.Element
element_step e = Tagged e.left (full_name_view e.name) (attributes_view e.attributes) (content_of (map texted e.children.items) (characters e.text))

abbrev pub element_view : Element → trees.Element
element_view = fold-Element trees.Element element_step

-- elements, each with the text before it
abbrev pub children_of : List (String Global × Element) → List (List ℕ × trees.Element)
children_of ps = map texted (map (λ (p : String Global × Element). (p.0, element_view p.1)) ps)

abbrev pub children_view : Vec (String Global × Element) Global → List (List ℕ × trees.Element)
children_view v = children_of v.items

-- what a map binds a prefix to
abbrev pub prefix_space : BTreeMap (Bor (List ℕ)) (Option (RcStr Global)) → List ℕ → Option (Option (List ℕ))
prefix_space prefixes p = option_map space_view (get_by (λ (k : Bor (List ℕ)). slice_cmp nat_cmp (text p) k.now) prefixes)

abbrev pub bindings_view : Bindings → Option (List ℕ) → Option (Option (List ℕ))
bindings_view b None = option_map space_view b.default_space
bindings_view b (Some p) = prefix_space b.prefixes p

abbrev pub valued_view : Valued → names.Valued
valued_view v = record { name = name_view v.name; value = characters v.value }

abbrev pub values_view : Vec (Placed Valued) Global → List (At names.Valued)
values_view v = map (placed_view valued_view) v.items

abbrev pub said_view : Said → names.Said
said_view x = record { own = bindings_view x.own; name = full_name_view x.name; attributes = attributes_view x.attributes }

abbrev pub open_view : Open → building.Open
open_view o = record { left = o.left; written = name_view o.written; said = said_view o.said; before = children_view o.before; text = characters o.text }

-- the open elements, of which the code has the innermost last
abbrev pub opens_of : List Open → List building.Open
opens_of os = map open_view (reverse os)

abbrev pub opens_view : Vec Open Global → List building.Open
opens_view v = opens_of v.items

abbrev pub state_view : Builder → building.State
state_view b = record { open_ones = opens_view b.open_ones; root = option_map element_view b.root }

-- why reading stopped, where that text is left
abbrev pub error_view : XmlError → List ℕ → TreeError
error_view stops.Memory rest = errors.Memory
error_view (stops.Fault fault) rest = errors.Fault fault (left_of rest)

-- What one more token made of the state, and what is left, are what reading gives; at the end of the text the state is what it was.
abbrev pub Steps : Result Bool TreeError → building.State → building.State → List ℕ → Result (Option building.State × List ℕ) Refusal → Type 0
Steps (Ok true) old new rest read = read ≡ Ok (Some new, rest)
Steps (Ok false) old new rest read = (read ≡ Ok (None, rest)) × (new ≡ old)
Steps (Err e) old new rest read = EndsWith (refusal_of e) read
