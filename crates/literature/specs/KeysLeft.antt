-- The keys of entries, one after the other.
use Rattle.std.specs.Prelude.{ℕ, List, map}
use Rattle.std.specs.Slice.Iter.{iter_rest}
use Rattle.literature_entries.specs.Views.{key_view}
use Rattle.literature.specs.declared.keys.Keys.{Keys}

-- the keys that are still to come, as bytes
abbrev pub keys_left : Keys → List (List ℕ)
keys_left keys = map key_view (iter_rest keys.rest)
