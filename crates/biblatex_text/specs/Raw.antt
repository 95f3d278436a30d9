-- What a text holds before the contents of its fields are read. Texts are lists of characters, as they are written.
use Rattle.std.specs.Prelude.{ℕ, List, [], ◌∷◌, ◌++◌}
use Rattle.std.specs.List.{flat_map}

-- Text between braces or quotation marks, without these, or a number; or the name of an abbreviation.
pub data Piece : Type 0 where
  normal : List ℕ → Piece
  abbreviation : List ℕ → Piece

-- Something, and the bytes of the whole text where it stands.
pub record At (X : Type 0) : Type 0 where
  pub v : X
  pub start : ℕ
  pub end : ℕ

-- what is made of it, with its span
abbrev pub at_map : {X Y : Type 0} → (X → Y) → At X → At Y
at_map f a = record { v = f a.v; start = a.start; end = a.end }

-- a field of an entry, or an abbreviation and what it stands for
pub record Field : Type 0 where
  pub name : At (List ℕ)
  pub value : At (List (At Piece))

pub record Entry : Type 0 where
  pub kind : At (List ℕ)
  pub key : At (List ℕ)
  pub fields : List Field

-- What an item gives: nothing, abbreviations, or an entry.
pub data Item : Type 0 where
  nothing : Item
  definitions : List Field → Item
  an_entry : Entry → Item

abbrev pub entry_in : ℕ → ℕ → Item → List (At Entry)
entry_in start end nothing = []
entry_in start end (definitions fields) = []
entry_in start end (an_entry e) = record { v = e; start = start; end = end } ∷ []

abbrev pub entries_of : At Item → List (At Entry)
entries_of i = entry_in i.start i.end i.v

abbrev pub fields_in : Item → List Field
fields_in nothing = []
fields_in (definitions fields) = fields
fields_in (an_entry e) = []

abbrev pub abbreviations_of : At Item → List Field
abbreviations_of i = fields_in i.v

-- all that a text holds, in its order
pub record Raw : Type 0 where
  pub entries : List (At Entry)
  pub abbreviations : List Field

-- all that the texts before an item hold, and what the item gives
abbrev pub with_item : Raw → At Item → Raw
with_item r i = record { entries = r.entries ++ entries_of i; abbreviations = r.abbreviations ++ abbreviations_of i }

abbrev pub gathered : List (At Item) → Raw
gathered items = record { entries = flat_map entries_of items; abbreviations = flat_map abbreviations_of items }
