-- What the code has and returns, without where it lies in memory.
use Rattle.std.specs.Global.{Global}
use Rattle.std.specs.Prelude.{◌≡◌, ℕ, List, map, Option, Some, Vec, Result, Ok, Err}
use Rattle.std.specs.Option.{option_map}
use Rattle.laws.specs.Text.{spelled}
use Rattle.xml_text.specs.Tokens.{At}
use Rattle.xml_text.specs.Tokens as tokens
use Rattle.xml_text.specs.Reading.{Refusal, Reading}
use Rattle.xml_text.specs.declared.fault.Fault.{Fault}
use Rattle.xml_text.specs.declared.fault.XmlError.{XmlError}
use Rattle.xml_text.specs.declared.fault.XmlError.TheVariants as errors
use Rattle.xml_text.specs.declared.token.Placed.{Placed}
use Rattle.xml_text.specs.declared.token.Name.{Name}
use Rattle.xml_text.specs.declared.token.Reference.{Reference}
use Rattle.xml_text.specs.declared.token.Reference.TheVariants as references
use Rattle.xml_text.specs.declared.token.Piece.{Piece}
use Rattle.xml_text.specs.declared.token.Piece.TheVariants as pieces
use Rattle.xml_text.specs.declared.token.Attribute.{Attribute}
use Rattle.xml_text.specs.declared.token.Tag.{Tag}
use Rattle.xml_text.specs.declared.token.Token.{Token}
use Rattle.xml_text.specs.declared.token.Token.TheVariants as variants

-- the view of something, with its place
abbrev pub placed_view : {X Y : Type 0} → (X → Y) → Placed X → At Y
placed_view view p = record { v = view p.v; left = p.left }

abbrev pub name_view : Name → tokens.Name
name_view n = record { prefix = option_map spelled n.prefix; local = spelled n.local }

abbrev pub reference_view : Reference → tokens.Reference
reference_view (references.Entity name) = tokens.Entity (spelled name)
reference_view (references.Decimal digits) = tokens.Decimal (spelled digits)
reference_view (references.Hexadecimal digits) = tokens.Hexadecimal (spelled digits)

abbrev pub piece_view : Piece → tokens.Piece
piece_view (pieces.Literal t) = tokens.Literal (spelled t)
piece_view (pieces.Reference r) = tokens.Referred (placed_view reference_view r)

abbrev pub pieces_view : Vec Piece Global → List tokens.Piece
pieces_view v = map piece_view v.items

abbrev pub attribute_view : Attribute → tokens.Attribute
attribute_view a = record { name = name_view a.name; value = pieces_view a.value }

abbrev pub attributes_view : Vec (Placed Attribute) Global → List (At tokens.Attribute)
attributes_view v = map (placed_view attribute_view) v.items

abbrev pub tag_view : Tag → tokens.Tag
tag_view t = record { name = name_view t.name; attributes = attributes_view t.attributes; empty = t.empty }

abbrev pub token_view : Token → tokens.Token
token_view (variants.Start t) = tokens.Start (tag_view t)
token_view (variants.End n) = tokens.End (placed_view name_view n)
token_view (variants.Characters t) = tokens.Characters (spelled t)
token_view (variants.Reference r) = tokens.Refers (reference_view r)
token_view (variants.Section t) = tokens.Section (spelled t)
token_view variants.Nothing = tokens.Nothing

-- What a function returned, under the view, and what it left to read, or its fault where the text from there on is left, are what reading
-- gives.
abbrev pub Reads : {X Y : Type 0} → (X → Y) → Result X Fault → List ℕ → Reading Y → Type 0
Reads view (Ok x) rest read = read ≡ Ok (view x, rest)
Reads view (Err fault) rest read = read ≡ Err (fault, rest)

-- the same of what a function left to read alone
abbrev pub Passes : {X : Type 0} → Result X Fault → List ℕ → Result (List ℕ) Refusal → Type 0
Passes (Ok x) rest read = read ≡ Ok rest
Passes (Err fault) rest read = read ≡ Err (fault, rest)

-- A fault stands where the text from there on is left; memory may run out at any time.
abbrev pub StopsAt : {Y : Type 0} → XmlError → List ℕ → Result Y Refusal → Type 0
StopsAt errors.Memory rest read = Unit {0}
StopsAt (errors.Fault fault) rest read = read ≡ Err (fault, rest)

-- the same of functions that take memory
abbrev pub Gives : {X Y : Type 0} → (X → Y) → Result X XmlError → List ℕ → Reading Y → Type 0
Gives view (Ok x) rest read = read ≡ Ok (view x, rest)
Gives view (Err error) rest read = StopsAt error rest read

abbrev pub GivesRest : {X : Type 0} → Result X XmlError → List ℕ → Result (List ℕ) Refusal → Type 0
GivesRest (Ok x) rest read = read ≡ Ok rest
GivesRest (Err error) rest read = StopsAt error rest read

-- the next token is that one and what follows is that; or memory ran out
abbrev pub GivesOnly : Result (Option (Placed Token)) XmlError → List ℕ → At tokens.Token → List ℕ → Type 0
GivesOnly (Ok found) left x rest = (option_map (placed_view token_view) found ≡ Some x) × (left ≡ rest)
GivesOnly (Err error) left x rest = error ≡ errors.Memory

-- what follows is that; or memory ran out
abbrev pub LeavesOnly : {X : Type 0} → Result X XmlError → List ℕ → List ℕ → Type 0
LeavesOnly (Ok x) left rest = left ≡ rest
LeavesOnly (Err error) left rest = error ≡ errors.Memory
