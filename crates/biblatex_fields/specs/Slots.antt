-- Slots of names: a name whose slot is not marked has no value.
use Rattle.std.specs.Prelude.{◌≡◌, ℕ, ◌+◌, ◌-◌, ◌*◌, ◌%◌, Bool, false, ◌==◌, List, length, None, slice_get}
use Rattle.std.specs.Option.{unwrap_or}
use Rattle.std.specs.Int.{bit_at}
use Rattle.biblatex_fields.specs.Fields.{Named, value_named}

-- the slot of a name, one of 64, from its length, its first byte and its last
abbrev pub slot : List ℕ → ℕ
slot name = (length name % 16 * 20 + unwrap_or (slice_get name 0) 0 + unwrap_or (slice_get name (length name - 1)) 0 * 2) % 64

-- whether the slot of a name is marked, where each slot has a bit
abbrev pub is_marked : ℕ → List ℕ → Bool
is_marked marks name = bit_at marks (slot name) == 1

-- every name with a value has its slot marked
abbrev pub AreMarked : ℕ → List Named → Type 0
AreMarked marks fs = (name : List ℕ) → is_marked marks name ≡ false → value_named name fs ≡ None
