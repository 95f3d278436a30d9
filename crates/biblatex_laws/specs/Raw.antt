-- Raw texts that are made of characters.
use Rattle.std.specs.Prelude.{◌≡◌, ℕ, true, List}
use Rattle.std.specs.List.{AllByRecursion}
use Rattle.std.specs.Str.{all_scalars}
use Rattle.biblatex_text.specs.Raw.{At, Piece, normal, abbreviation, Field, Entry, Item, nothing, definitions, an_entry, Raw}

-- each number is that of a character
abbrev pub AreCharacters : List ℕ → Type 0
AreCharacters cs = all_scalars cs ≡ true

abbrev pub IsPieceText : Piece → Type 0
IsPieceText (normal cs) = AreCharacters cs
IsPieceText (abbreviation name) = AreCharacters name

abbrev pub ArePiecesText : List (At Piece) → Type 0
ArePiecesText ps = AllByRecursion (λ p. IsPieceText p.v) ps

-- The name and the pieces of a field are made of characters.
pub record IsFieldText (f : Field) : Type 0 where
  pub name : AreCharacters f.name.v
  pub pieces : ArePiecesText f.value.v

abbrev pub AreFieldsText : List Field → Type 0
AreFieldsText fs = AllByRecursion IsFieldText fs

-- The kind, the key and the fields of an entry are made of characters.
pub record IsEntryText (e : Entry) : Type 0 where
  pub kind : AreCharacters e.kind.v
  pub key : AreCharacters e.key.v
  pub fields : AreFieldsText e.fields

abbrev pub IsItemText : Item → Type 0
IsItemText nothing = Unit {0}
IsItemText (definitions fs) = AreFieldsText fs
IsItemText (an_entry e) = IsEntryText e

-- All entries and abbreviations are made of characters.
pub record IsRawText (r : Raw) : Type 0 where
  pub entries : AllByRecursion (λ e. IsEntryText e.v) r.entries
  pub abbreviations : AreFieldsText r.abbreviations
