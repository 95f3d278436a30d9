-- The keys of entries.
use Rattle.std.specs.Prelude.{ℕ, List, map, string_bytes}
use Rattle.biblatex.specs.declared.keys.Keys.{Keys}

-- the keys that are still to come, as bytes
abbrev pub keys_left : Keys → List (List ℕ)
keys_left k = map (λ e. string_bytes e.key) k.rest.now
