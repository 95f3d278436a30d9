-- What is left of a list where the things at some indices were taken.
use Rattle.std.specs.Prelude.{ℕ, suc, Bool, ◌==◌, List, [], ◌∷◌, if◌then◌else◌, Option, Some, None}
use Rattle.std.specs.List.{list_any}
use Rattle.std.specs.Borrow.{Bor}
use Rattle.literature.specs.declared.holding.Taken.{Taken, fold-Taken}

-- the indices that were taken before
abbrev pub earlier : Option (Bor (List ℕ)) → List ℕ
earlier None = []
earlier (Some b) = b.now

-- the indices that were taken, the last one first
abbrev pub indices : Taken → List ℕ
indices = fold-Taken (List ℕ) (λ t. t.index ∷ earlier t.before)

-- the indices that were taken, where any were
abbrev pub taken_indices : Option (Bor Taken) → List ℕ
taken_indices None = []
taken_indices (Some t) = indices t.now

-- whether the index is among them
abbrev pub is_among : ℕ → List ℕ → Bool
is_among i taken = list_any (λ p. i == p) taken

-- what is left, where the first thing stands at index i
abbrev pub left_from : {X : Type 0} → List ℕ → ℕ → List X → List X
left_from taken i [] = []
left_from taken i (x ∷ xs) = if is_among i taken then left_from taken (suc i) xs else x ∷ left_from taken (suc i) xs

-- what is left
abbrev pub left_of : {X : Type 0} → List ℕ → List X → List X
left_of taken xs = left_from taken 0 xs
