-- Values with keys.
use Rattle.std.specs.declared.cmp.Ordering.{Ordering}
use Rattle.sorting.specs.declared.keyed.Keyed.{Keyed}

-- how values with keys compare
abbrev pub by_key : {K X : Type 0} → (K → K → Ordering) → Keyed K X → Keyed K X → Ordering
by_key cmp a b = cmp a.key b.key

-- the value
abbrev pub value_of : {K X : Type 0} → Keyed K X → X
value_of k = k.value
