-- Lists in the order of keys.
use Rattle.std.specs.Prelude.{List}
use Rattle.sorting.specs.Sorted.{sorted}
use Rattle.rendering_sorting.specs.Keys.{Part, key_cmp}

-- the members of a list in the order of their keys; those with equal keys stay in their order
abbrev pub ordered_by : {X : Type 0} → (X → List Part) → List X → List X
ordered_by key xs = sorted (λ x y. key_cmp (key x) (key y)) xs
