-- The order of cited entries, and their numbers.
use Rattle.std.specs.Prelude.{ℕ, ◌+◌, ◌^◌, ◌-◌, Bool, nat_eq, nat_lt, List, ◌++◌, map, filter, length, Option, Some, None}
use Rattle.std.specs.List.{list_any, flat_map, position_or_len}
use Rattle.rendering_style.specs.Styles.{Bibliography}
use Rattle.driver_requests.specs.CitedEntries.{once}
use Rattle.driver_requests.specs.Requests.{Request}

-- all entries that requests cite, by first cite
abbrev pub cited : {P : Type 0} → List (Request P) → List ℕ
cited rs = once nat_eq (flat_map (λ r. map (λ i. i.entry.index) r.items) rs)

-- whether an index is among some
abbrev pub is_index_in : List ℕ → ℕ → Bool
is_index_in indices index = list_any (nat_eq index) indices

-- The order: in a style with a bibliography the wanted entries first, so far as they are cited; then the others by first cite.
abbrev pub ordered : Option Bibliography → List ℕ → List ℕ → List ℕ
ordered None wanted indices = indices
ordered (Some b) wanted indices = once nat_eq (filter (is_index_in indices) wanted ++ indices)

-- the number of an entry, from zero: its index in the order, after an offset
abbrev pub number_in : ℕ → List ℕ → ℕ → ℕ
number_in offset order index = offset + position_or_len (nat_eq index) order

-- whether the offset and the number of entries are together above the greatest number that is printed
abbrev pub numbers_overflow : ℕ → List ℕ → Bool
numbers_overflow offset order = nat_lt (2 ^ 31 - 1) (offset + length order)
