-- What the code has and returns, without where it lies in memory.
use Rattle.std.specs.Prelude.{◌≡◌, ℕ, List, map, Option, Some, None}
use Rattle.std.specs.Str.{chars}
use Rattle.laws.specs.Text.{characters}
use Rattle.literature.specs.Tokens.{Token, tokens}
use Rattle.literature.specs.Trees.{Tree, Any, Entry, Not, Binding, Attributes, Alternatives, Multi, Ancestry, trees_of}
use Rattle.literature.specs.Reading.{Fault, MissingValue, MalformedAttribute, MissingComma, UnbalancedParens, UnknownEntryType, TooDeep}
use Rattle.literature.specs.declared.reader.Reader.{Reader}
use Rattle.literature.specs.declared.node.Node.{Node, fold-Node}
use Rattle.literature.specs.declared.node.Node.TheOpen.{Node-F}
use Rattle.literature.specs.declared.selector.Selector.{Selector}
use Rattle.literature.specs.declared.selector_error.SelectorError.{SelectorError}
use Rattle.literature.specs.declared.selector_error.SelectorError.TheVariants as errors

-- the tokens that are left to read
abbrev pub left : Reader → List Token
left r = tokens (chars r.rest.now)

-- one node, with each selector in it already viewed
abbrev pub view_step : Node-F Tree → Tree
view_step Node-F.Any = Any
view_step (Node-F.Entry t) = Entry t
view_step (Node-F.Not x) = Not x.value
view_step (Node-F.Binding n x) = Binding (characters n) x.value
view_step (Node-F.Attributes x ns) = Attributes x.value (map characters ns.items)
view_step (Node-F.Alternatives xs) = Alternatives (trees_of xs.items)
view_step (Node-F.Multi xs) = Multi (trees_of xs.items)
view_step (Node-F.Ancestry x y) = Ancestry x.value y.value

-- a node with what it holds as plain data
abbrev pub tree_view : Node → Tree
tree_view = fold-Node Tree view_step

-- a selector as plain data
abbrev pub selector_view : Selector → Tree
selector_view s = tree_view s.root

-- the fault that an error is; out of memory is none
abbrev pub fault : SelectorError → Option Fault
fault errors.MissingValue = Some MissingValue
fault errors.MalformedAttribute = Some MalformedAttribute
fault errors.MissingComma = Some MissingComma
fault errors.UnbalancedParens = Some UnbalancedParens
fault (errors.UnknownEntryType name) = Some (UnknownEntryType (characters name))
fault errors.TooDeep = Some TooDeep
fault errors.Memory = None

-- the error says that the name is no type's; or memory ran out
abbrev pub TellsUnknown : Option Fault → List ℕ → Type 0
TellsUnknown None name = Unit {0}
TellsUnknown (Some f) name = f ≡ UnknownEntryType name

abbrev pub IsUnknown : SelectorError → List ℕ → Type 0
IsUnknown e name = TellsUnknown (fault e) name
