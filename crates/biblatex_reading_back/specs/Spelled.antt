-- Entries as characters of a file, whatever these characters mean.
use Rattle.std.specs.Prelude.{◌≡◌, ℕ, true, List, [], ◌∷◌, ◌++◌, Ok}
use Rattle.std.specs.List.{AllByRecursion, list_all}
use Rattle.laws.specs.Characters.{line_feed, space, comma, equals_sign, at_sign, open_brace, close_brace}
use Rattle.biblatex_text.specs.Character.{is_key}
use Rattle.biblatex_text.specs.Raw.{At, Piece, normal, Field, Entry, Raw}
use Rattle.biblatex_text.specs.Items.{raw_of}
use Rattle.biblatex_grammar.specs.Items.{IsOther}
use Rattle.biblatex_writing.specs.Settled.{is_identifier}
use Rattle.biblatex_reading_back.specs.Laws.{IsBalancedText}

-- a name and a content
abbrev pub Pair : Type 0
Pair = List ℕ × List ℕ

-- a kind, a key, and fields
pub record Plain : Type 0 where
  pub kind : List ℕ
  pub key : List ℕ
  pub fields : List Pair

-- a field's line, before other characters
abbrev pub field_then : Pair → List ℕ → List ℕ
field_then f rest = f.0 ++ space ∷ equals_sign ∷ space ∷ open_brace ∷ (f.1 ++ close_brace ∷ comma ∷ line_feed ∷ rest)

abbrev pub fields_then : List Pair → List ℕ → List ℕ
fields_then [] rest = rest
fields_then (f ∷ fs) rest = field_then f (fields_then fs rest)

-- an entry, before other characters
abbrev pub entry_then : Plain → List ℕ → List ℕ
entry_then e rest = at_sign ∷ (e.kind ++ open_brace ∷ (e.key ++ comma ∷ line_feed ∷ fields_then e.fields (close_brace ∷ line_feed ∷ rest)))

-- entries after others, each after an empty line
abbrev pub entries_after : List Plain → List ℕ
entries_after [] = []
entries_after (e ∷ es) = line_feed ∷ entry_then e (entries_after es)

-- a file of entries
abbrev pub file_of : List Plain → List ℕ
file_of [] = []
file_of (e ∷ es) = entry_then e (entries_after es)

-- The name is an identifier, and the content may stand in braces.
pub record IsField (f : Pair) : Type 0 where
  pub name : is_identifier f.0 ≡ true
  pub content : IsBalancedText f.1

-- The kind is that of an entry, and the key one that an entry in braces can have.
pub record IsEntry (e : Plain) : Type 0 where
  pub kind : is_identifier e.kind ≡ true
  pub other : IsOther e.kind
  pub key : list_all is_key e.key ≡ true
  pub fields : AllByRecursion IsField e.fields

-- A raw field has that name, and that content as its only piece.
pub record SaysField (f : Pair) (g : Field) : Type 0 where
  pub name : g.name.v ≡ f.0
  pub piece : At Piece
  pub alone : g.value.v ≡ piece ∷ []
  pub content : piece.v ≡ normal f.1

abbrev pub SayFields : List Pair → List Field → Type 0
SayFields [] [] = Unit {0}
SayFields [] (g ∷ gs) = ⊥
SayFields (f ∷ fs) [] = ⊥
SayFields (f ∷ fs) (g ∷ gs) = SaysField f g × SayFields fs gs

-- A raw entry has that kind, that key and those fields.
pub record SaysEntry (e : Plain) (r : Entry) : Type 0 where
  pub kind : r.kind.v ≡ e.kind
  pub key : r.key.v ≡ e.key
  pub fields : SayFields e.fields r.fields

abbrev pub SayEntries : List Plain → List (At Entry) → Type 0
SayEntries [] [] = Unit {0}
SayEntries [] (r ∷ rs) = ⊥
SayEntries (e ∷ es) [] = ⊥
SayEntries (e ∷ es) (r ∷ rs) = SaysEntry e r.v × SayEntries es rs

-- A raw text has those entries and no abbreviations.
pub record SaysAll (es : List Plain) (raw : Raw) : Type 0 where
  pub entries : SayEntries es raw.entries
  pub none : raw.abbreviations ≡ []

-- A file of entries is read, and what is read of it says these entries.
pub record IsReadAsSpelled (es : List Plain) : Type 0 where
  pub raw : Raw
  pub read : raw_of (file_of es) ≡ Ok raw
  pub says : SaysAll es raw

abbrev pub FilesAreReadAsSpelled : Type 0
FilesAreReadAsSpelled = (es : List Plain) → AllByRecursion IsEntry es → IsReadAsSpelled es
