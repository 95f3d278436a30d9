-- Reading tags. Characters are numbers.
use Rattle.std.specs.Prelude.{ℕ, Bool, true, false, ◌==◌, List, [], ◌∷◌, if◌then◌else◌, Option, Some, None, Ok, Err}
use Rattle.laws.specs.Results.{◌>>=◌}
use Rattle.laws.specs.Runs.{prefix_of, after}
use Rattle.laws.specs.Steps.{each}
use Rattle.xml_text.specs.Character.{passes}
use Rattle.xml_text.specs.Tokens.{At, Name, Piece, Literal, Referred, Attribute, Tag}
use Rattle.xml_text.specs.Reading.{Reading, placed, character_at, begins, after_space, name_at, reference_at}
use Rattle.xml_text.specs.declared.character.Quote.{Quote}
use Rattle.xml_text.specs.declared.character.Quote.TheVariants.{Double, Single}
use Rattle.xml_text.specs.declared.character.Class.{Class}
use Rattle.xml_text.specs.declared.character.Class.TheVariants.{Space, NameStart, DoubleQuoted, SingleQuoted}
use Rattle.xml_text.specs.declared.fault.Fault.TheVariants.{Unclosed, Unexpected}

-- the character that a quote is
abbrev pub mark_of : Quote → ℕ
mark_of Double = 34
mark_of Single = 39

-- what may stand between two of them beside references
abbrev pub quoted_class : Quote → Class
quoted_class Double = DoubleQuoted
quoted_class Single = SingleQuoted

-- a piece of a value, or nothing where it ends
abbrev pub piece_at : Quote → List ℕ → Reading (Option Piece)
piece_at quote [] = Ok (None, [])
piece_at quote (c ∷ cs) = if c == 38 then (reference_at cs >>= λ r. Ok (Some (Referred (placed (c ∷ cs) r.0)), r.1))
    else (if passes (quoted_class quote) c then Ok (Some (Literal (prefix_of (passes (quoted_class quote)) (c ∷ cs))), after (passes (quoted_class quote)) (c ∷ cs))
    else Ok (None, c ∷ cs))

-- AttValue, after its first quote
unfoldable pub quoted_at : Quote → List ℕ → Reading (List Piece)
quoted_at quote cs = do
  pieces ← each (piece_at quote) cs
  rest ← character_at (mark_of quote) pieces.1
  Ok (pieces.0, rest)

-- AttValue
abbrev pub value_at : List ℕ → Reading (List Piece)
value_at [] = Err (Unclosed, [])
value_at (c ∷ cs) = if c == 34 then quoted_at Double cs else (if c == 39 then quoted_at Single cs else Err (Unexpected, c ∷ cs))

-- Attribute
unfoldable pub attribute_at : List ℕ → Reading (At Attribute)
attribute_at cs = do
  name ← name_at cs
  following ← character_at 61 (after_space name.1)
  value ← value_at (after_space following)
  Ok (placed cs (record { name = name.0; value = value.0 }), value.1)

-- after white space an attribute, which white space must precede, or nothing where no name begins
abbrev pub attribute_after : Bool → List ℕ → Reading (Option (At Attribute))
attribute_after spaced [] = Ok (None, [])
attribute_after spaced (c ∷ cs) = if passes NameStart c then (if spaced then (attribute_at (c ∷ cs) >>= λ a. Ok (Some a.0, a.1)) else Err (Unexpected, c ∷ cs))
    else Ok (None, c ∷ cs)

unfoldable pub next_attribute_at : List ℕ → Reading (Option (At Attribute))
next_attribute_at cs = attribute_after (begins Space cs) (after_space cs)

-- what ends a start-tag, and whether the element is empty
abbrev pub tag_end_at : List ℕ → Reading Bool
tag_end_at [] = Err (Unclosed, [])
tag_end_at (c ∷ cs) = if c == 62 then Ok (false, cs) else (if c == 47 then (character_at 62 cs >>= λ rest. Ok (true, rest)) else Err (Unexpected, c ∷ cs))

-- STag or EmptyElemTag, after its angle bracket
unfoldable pub start_tag_at : List ℕ → Reading Tag
start_tag_at cs = do
  name ← name_at cs
  attributes ← each next_attribute_at name.1
  empty ← tag_end_at attributes.1
  Ok (record { name = name.0; attributes = attributes.0; empty = empty.0 }, empty.1)

-- ETag, after its angle bracket and slash
unfoldable pub end_tag_at : List ℕ → Reading (At Name)
end_tag_at cs = do
  name ← name_at cs
  rest ← character_at 62 (after_space name.1)
  Ok (placed cs name.0, rest)
