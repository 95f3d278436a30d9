-- Bindings of the code as callers see them.
use Rattle.std.specs.Prelude.{ℕ, List, map, Option, string_bytes}
use Rattle.std.specs.Slice.Iter.{iter_rest}
use Rattle.std.specs.Str.{bytes_eq}
use Rattle.std.specs.Map.{lookup}
use Rattle.literature_entries.specs.declared.entry.Entry.{Entry}
use Rattle.literature.specs.Bindings.{Bound}
use Rattle.literature.specs.BoundNames.{binding_view}
use Rattle.literature.specs.declared.bindings.Bindings.{Bindings}
use Rattle.literature.specs.declared.bound_names.BoundNames.{BoundNames}

-- the names with the entries that they are bound to, each name once
abbrev pub bindings_view : Bindings → Bound
bindings_view b = map binding_view b.entries.items

-- the entry that is bound to the name
abbrev pub named_in : Bindings → List ℕ → Option Entry
named_in b name = lookup (bytes_eq name) (bindings_view b)

-- the names that are still to come, as bytes
abbrev pub names_left : BoundNames → List (List ℕ)
names_left n = map (λ p. string_bytes p.0) (iter_rest n.rest)
