-- The fields of an entry: names in lower case, as bytes, in their order, each with its value.
use Rattle.std.specs.Global.{Global}
use Rattle.std.specs.Prelude.{◌≡◌, ℕ, true, List, [], ◌∷◌, map, Option, Result, Ok, IfSome, String, string_bytes, Vec}
use Rattle.std.specs.Option.{option_map}
use Rattle.std.specs.Str.{bytes_eq}
use Rattle.std.specs.List.Sorted.{IsStrictlySortedBy}
use Rattle.std.specs.Map.{keys_of, lookup, remove_entry}
use Rattle.std.specs.Ordering.{nat_cmp}
use Rattle.std.specs.Cmp.Lexicographic.{slice_cmp}
use Rattle.std.specs.BTreeMap.{insert_entry}
use Rattle.laws.specs.Results.{◌>>=◌}
use Rattle.laws.specs.Text.{lowered}
use Rattle.biblatex_text.specs.Raw.{Field}
use Rattle.biblatex_text.specs.declared.spanned.Spanned.{Spanned}
use Rattle.biblatex_content.specs.Styled.{Member}
use Rattle.biblatex_content.specs.declared.chunk.Chunk.{Chunk}
use Rattle.biblatex_fields.specs.Abbreviations.{Glossary}
use Rattle.biblatex_fields.specs.Refusals.{Refusal}
use Rattle.biblatex_fields.specs.Value.{Value, field_value_view, value_of}

-- a name and its value
abbrev pub Named : Type 0
Named = List ℕ × Value

-- fields with one more, which replaces an equal name, or stands where its name comes in the order of names
abbrev pub with_field : List Named → List ℕ → Value → List Named
with_field fs name value = insert_entry (slice_cmp nat_cmp) fs name value

-- the value of a name, and the styled text of this value
abbrev pub value_named : List ℕ → List Named → Option Value
value_named name fs = lookup (bytes_eq name) fs

abbrev pub text_named : List ℕ → List Named → Option (List Member)
text_named name fs = option_map (λ v. v.text) (value_named name fs)

-- fields without the one of a name
abbrev pub without_field : List ℕ → List Named → List Named
without_field name fs = remove_entry (bytes_eq name) fs

-- each name is less than those after it
abbrev pub AreInOrder : List Named → Type 0
AreInOrder fs = IsStrictlySortedBy (slice_cmp nat_cmp) (keys_of fs)

-- written fields after those that were read: each is read, and the last of equal names stays
abbrev pub fields_after : Glossary → List Named → List Field → Result (List Named) Refusal
fields_after g done [] = Ok done
fields_after g done (f ∷ fs) = value_of g f >>= λ value. fields_after g (with_field done (lowered f.name.v) value) fs

-- the fields of an entry, or the first fault in the order of its written fields and their pieces
abbrev pub fields_of : Glossary → List Field → Result (List Named) Refusal
fields_of g fs = fields_after g [] fs

-- a value whose chunks are joined, where there is one
abbrev pub IsJoined : Option Value → Type 0
IsJoined o = IfSome o (λ v. v.is_joined ≡ true)

-- the chunks of each field are joined
abbrev pub AreJoined : List Named → Type 0
AreJoined fs = (name : List ℕ) → IsJoined (value_named name fs)

-- the fields of a map, as names and values
abbrev pub named_field_view : String Global × Vec (Spanned Chunk) Global → Named
named_field_view e = (string_bytes e.0, field_value_view e.1.items)

abbrev pub named_fields_view : List (String Global × Vec (Spanned Chunk) Global) → List Named
named_fields_view es = map named_field_view es
