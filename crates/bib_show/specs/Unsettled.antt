-- What keeps entries from reading back as they are written, and the message for it.
use Rattle.std.specs.Prelude.{◌≡◌, ℕ, ◌+◌, true, not, List, [], ◌∷◌, ◌++◌, Option, Some, None, Result, Ok, Err, slice_get, codes, if◌then◌else◌}
use Rattle.std.specs.List.{list_any}
use Rattle.std.specs.Str.{bytes_eq, chars, is_utf8}
use Rattle.biblatex.specs.Raw.{At, Entry, Raw}
use Rattle.biblatex.specs.Items.{raw_of}
use Rattle.biblatex.specs.Fault.{Fault}
use Rattle.biblatex.specs.Fields.{Named}
use Rattle.biblatex.specs.Entries.{Source}
use Rattle.biblatex.specs.Listed.{Listed}
use Rattle.biblatex.specs.Resolved.{TextMeans}
use Rattle.biblatex_writing.specs.FieldNames.{written_name}
use Rattle.biblatex_writing.specs.Flat.{flat}
use Rattle.biblatex_writing.specs.Settled.{has_touching_hyphens, is_settled_entry, is_settled_field, is_settled_key, is_settled_type, naming_fields}
use Rattle.biblatex_writing.specs.Written.{is_less}
use Rattle.source_positions.specs.Messages.{refusal_lines}

-- the first entry that is not settled, and its index, where those before it are so many
abbrev pub first_unsettled : ℕ → List Source → Option (ℕ × Source)
first_unsettled n [] = None
first_unsettled n (e ∷ es) = if is_settled_entry e then first_unsettled (n + 1) es else Some (n, e)

-- of a field that was found, if one was, and another one, the one that is written first
abbrev pub written_first : Option Named → Named → Named
written_first None f = f
written_first (Some found) f = if is_less (written_name f.0) (written_name found.0) then f else found

-- the field that is written first among those that are not settled and one that was found
abbrev pub unsettled_field : Option Named → List Named → Option Named
unsettled_field found [] = found
unsettled_field found (f ∷ fs) = unsettled_field (if is_settled_field f then found else Some (written_first found f)) fs

abbrev pub reason : List ℕ → List ℕ → List ℕ
reason part name = codes "unsettled " ++ (part ++ (codes " " ++ name))

-- what is wrong with a field that is not settled
abbrev pub field_fault : Named → List ℕ
field_fault f = if list_any (bytes_eq f.0) naming_fields then codes ": names entries"
    else (if has_touching_hyphens f then codes ": two hyphens that touch are read as a dash" else codes ": is not read back")

-- why a field is not settled
abbrev pub field_reason : Option Named → List ℕ
field_reason None = reason (codes "field") []
field_reason (Some f) = codes "unsettled field " ++ (f.0 ++ field_fault f)

-- Why an entry is not settled: its type is not; or else its key; or else a field, of which the one is named that is written first, and why.
-- There is such a field where the entry is not settled and its type and its key are.
abbrev pub unsettled_reason : Source → List ℕ
unsettled_reason e = if not (is_settled_type e.entry_type) then reason (codes "type") e.entry_type.name
    else (if not (is_settled_key (chars e.key)) then reason (codes "key") e.key
    else field_reason (unsettled_field None e.fields))

-- the byte of a text at which the key of its entry at an index begins; 0 where there is none
abbrev pub key_start_of : Option (At Entry) → ℕ
key_start_of None = 0
key_start_of (Some e) = e.v.key.start

abbrev pub key_start : ℕ → Result Raw (Fault × ℕ) → ℕ
key_start index (Ok raw) = key_start_of (slice_get raw.entries index)
key_start index (Err f) = 0

-- an entry that is not settled, at its key
abbrev pub unsettled_lines : List ℕ → List ℕ → ℕ → Source → List ℕ
unsettled_lines path source index e = refusal_lines path source (key_start index (raw_of (chars source))) (unsettled_reason e)

-- the message for entries of a text, at the first of them that does not read back
pub record IsFirstUnsettled (path source : List ℕ) (es : List Source) (message : List ℕ) : Type 0 where
  pub index : ℕ
  pub entry : Source
  pub first : first_unsettled 0 es ≡ Some (index, entry)
  pub lines : message ≡ unsettled_lines path source index entry

-- a text that means entries which, once they are without references, are not settled
pub record IsUnsettled (path source message : List ℕ) : Type 0 where
  pub resolved : Listed
  pub is_text : is_utf8 source ≡ true
  pub means : TextMeans (chars source) (Ok resolved)
  pub unsettled : IsFirstUnsettled path source (flat resolved.entries) message
