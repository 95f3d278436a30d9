-- What a text of XML is made of, as it is written. Texts are lists of characters. A place is told by how many bytes of the text are left there.
use Rattle.std.specs.Prelude.{ℕ, Bool, List, Option}

-- something, and the place where it begins
pub record At (X : Type 0) : Type 0 where
  pub v : X
  pub left : ℕ

-- a name, with a prefix before its colon or with none
pub record Name : Type 0 where
  pub prefix : Option (List ℕ)
  pub local : List ℕ

-- a reference: the name of an entity, or the number of a character in digits
pub data Reference : Type 0 where
  Entity : List ℕ → Reference
  Decimal : List ℕ → Reference
  Hexadecimal : List ℕ → Reference

-- a piece of an attribute's value
pub data Piece : Type 0 where
  Literal : List ℕ → Piece
  Referred : At Reference → Piece

pub record Attribute : Type 0 where
  pub name : Name
  pub value : List Piece

-- a start-tag, which may be that of an empty element
pub record Tag : Type 0 where
  pub name : Name
  pub attributes : List (At Attribute)
  pub empty : Bool

-- A tag, character data, a reference, or the text of a CDATA section; comments and processing instructions say nothing here.
pub data Token : Type 0 where
  Start : Tag → Token
  End : At Name → Token
  Characters : List ℕ → Token
  Refers : Reference → Token
  Section : List ℕ → Token
  Nothing : Token
