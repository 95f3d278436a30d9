-- Lists sorted stably.
use Rattle.std.specs.Prelude.{Bool, List, [], ◌∷◌, if◌then◌else◌}
use Rattle.std.specs.Ordering.{is_lt}
use Rattle.std.specs.declared.cmp.Ordering.{Ordering}

-- an element put into a sorted list, before the first that is not less than it
abbrev pub put_in : {X : Type 0} → (X → X → Bool) → X → List X → List X
put_in lt x [] = x ∷ []
put_in lt x (y ∷ ys) = if lt y x then y ∷ put_in lt x ys else x ∷ y ∷ ys

-- the elements of a list, each put into those after it, which are sorted
abbrev pub sorted_by : {X : Type 0} → (X → X → Bool) → List X → List X
sorted_by lt [] = []
sorted_by lt (x ∷ xs) = put_in lt x (sorted_by lt xs)

-- whether an element is less than another one
abbrev pub is_less : {X : Type 0} → (X → X → Ordering) → X → X → Bool
is_less cmp x y = is_lt (cmp x y)

-- a list sorted by a comparison
abbrev pub sorted : {X : Type 0} → (X → X → Ordering) → List X → List X
sorted cmp = sorted_by (is_less cmp)
