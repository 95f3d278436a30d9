-- Entries as callers see them, and the names in their fields.
use Rattle.std.specs.Prelude.{◌≡◌, ℕ, List, [], ◌∷◌, ◌++◌, map, slice_get, Option, Some, None, IfSome, string_bytes, codes}
use Rattle.std.specs.List.{flat_map}
use Rattle.laws.specs.Text.{text}
use Rattle.biblatex_content.specs.Styled.{Member, Letter, Math, plain}
use Rattle.biblatex_fields.specs.Fields.{Named, text_named, with_field, AreJoined}
use Rattle.biblatex_fields.specs.Value.{Value}
use Rattle.biblatex_entries.specs.TypeNames.{TypeName, type_name}
use Rattle.biblatex_entries.specs.Names.{trimmed, listed}
use Rattle.biblatex_entries.specs.declared.entry.Entry.{Entry}

-- An entry without where it lies in memory: its key as bytes, its type, and its fields with their values.
pub record Source : Type 0 where
  pub key : List ℕ
  pub entry_type : TypeName
  pub fields : List Named

abbrev pub source_view : Entry → Source
source_view e = record { key = string_bytes e.key; entry_type = type_name e.entry_type; fields = e.fields }

abbrev pub sources_view : List Entry → List Source
sources_view es = map source_view es

-- the chunks of each field of each entry are joined
abbrev pub HaveJoinedFields : List Source → Type 0
HaveJoinedFields es = (i : ℕ) → IfSome (slice_get es i) (λ e. AreJoined e.fields)

-- the text of a field, as bytes; none where there is no such field
abbrev pub text_in : Option (List Member) → List ℕ
text_in None = []
text_in (Some ms) = text (plain ms)

abbrev pub field_text : List ℕ → List Named → List ℕ
field_text name fs = text_in (text_named name fs)

-- an entry with one more field
abbrev pub with_value : Source → List ℕ → Value → Source
with_value e name v = record { key = e.key; entry_type = e.entry_type; fields = with_field e.fields name v }

-- The field of this name was given a value of this text.
pub record HasSet (old : Source) (name : List ℕ) (ms : List Member) (new : Source) : Type 0 where
  pub value : Value
  pub spells : value.text ≡ ms
  pub put : new ≡ with_value old name value

-- the names of the entries that an entry refers to: the one of `crossref`, then those of `xdata`
abbrev pub parents_of : List Named → List (List ℕ)
parents_of fs = trimmed (field_text (codes "crossref") fs) ++ listed (field_text (codes "xdata") fs)

-- the names of an entry: its key, then those of `ids`
abbrev pub names_of : Source → List (List ℕ)
names_of e = e.key ∷ listed (field_text (codes "ids") e.fields)
