-- Entries as they are written. A long value that several fields have is held once for all of them: such a field stands beside its entry, and
-- not in it.
use Rattle.std.specs.Global.{Global}
use Rattle.std.specs.Prelude.{◌≡◌, ℕ, Bool, ◌||◌, List, [], ◌∷◌, slice_get, Option, Some, None, Vec, string_bytes, codes, if◌then◌else◌}
use Rattle.std.specs.Str.{bytes_eq}
use Rattle.biblatex_fields.specs.Fields.{Named, with_field}
use Rattle.biblatex_fields.specs.Value.{Value, field_value_view}
use Rattle.biblatex_entries.specs.Entries.{Source, sources_view, names_of, parents_of}
use Rattle.biblatex_suppliers.specs.declared.shared.Shared.{Shared}
use Rattle.biblatex_suppliers.specs.declared.shared.Written.{Written}

-- the value of a field that stands beside its entry
abbrev pub value_beside : Shared → Value
value_beside s = field_value_view s.value.value.items

-- fields with those beside them
abbrev pub with_shared : List Named → List Shared → List Named
with_shared fs [] = fs
with_shared fs (s ∷ ss) = with_field (with_shared fs ss) (string_bytes s.name) (value_beside s)

abbrev pub entry_with : Source → List Shared → Source
entry_with e ss = record { key = e.key; entry_type = e.entry_type; fields = with_shared e.fields ss }

-- entries, each with the fields beside it
abbrev pub all_with : List Source → List (Vec Shared Global) → List Source
all_with [] vs = []
all_with (e ∷ es) [] = entry_with e [] ∷ all_with es []
all_with (e ∷ es) (v ∷ vs) = entry_with e v.items ∷ all_with es vs

abbrev pub written_view : Written → List Source
written_view w = all_with (sources_view w.entries.items) w.shared.items

-- the fields beside the entry of a number
abbrev pub beside_in : Option (Vec Shared Global) → List Shared
beside_in None = []
beside_in (Some v) = v.items

abbrev pub beside : List (Vec Shared Global) → ℕ → List Shared
beside vs n = beside_in (slice_get vs n)

-- the value under a name among these fields
abbrev pub shared_named : List ℕ → List Shared → Option Value
shared_named name [] = None
shared_named name (s ∷ ss) = if bytes_eq name (string_bytes s.name) then Some (value_beside s) else shared_named name ss

-- whether a field of this name says how its entry is called, or to which others it refers
abbrev pub is_said : List ℕ → Bool
is_said name = bytes_eq name (codes "ids") || (bytes_eq name (codes "crossref") || bytes_eq name (codes "xdata"))

-- what an entry says of names: its key, all its names, and those to which it refers
abbrev pub said : Source → List ℕ × (List (List ℕ) × List (List ℕ))
said e = (e.key, (names_of e, parents_of e.fields))

-- With the fields beside it an entry is what it was, and without them it says of names what it said.
pub record IsSetAside (old new : Source) (ss : List Shared) : Type 0 where
  pub whole : entry_with new ss ≡ old
  pub same : said new ≡ said old
