-- Trees of XML: an element with its attributes and its content. Texts are lists of characters. A place is told by how many bytes of the text
-- are left there.
use Rattle.std.specs.Prelude.{ℕ, List, [], ◌∷◌, Option}
use Rattle.xml_text.specs.Tokens.{At}

-- an expanded name: a namespace, or none, and a local name
pub record FullName : Type 0 where
  pub space : Option (List ℕ)
  pub local : List ℕ

-- an attribute that declares no namespace
pub record Attribute : Type 0 where
  pub name : FullName
  pub value : List ℕ

mutual
  -- an element, at the place of its start-tag
  pub data Element : Type 0 where
    Tagged : ℕ → FullName → List (At Attribute) → Content → Element

  -- a text and nothing else, or a text, an element and what follows it; a text may be empty
  pub data Content : Type 0 where
    Last : List ℕ → Content
    Next : List ℕ → Element → Content → Content

-- texts with the elements that follow them, and a last text
abbrev pub content_of : List (List ℕ × Element) → List ℕ → Content
content_of [] text = Last text
content_of (p ∷ ps) text = Next p.0 p.1 (content_of ps text)
