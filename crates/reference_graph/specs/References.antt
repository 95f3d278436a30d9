-- References between numbers, and which numbers reach themselves.
use Rattle.std.specs.Global.{Global}
use Rattle.std.specs.Prelude.{◌≡◌, ℕ, zero, suc, List, [], map, Vec, Contains, slice_index_or}

-- the references of each number, without where they lie in memory
abbrev pub lists : List (Vec ℕ Global) → List (List ℕ)
lists vectors = map (λ v. v.items) vectors

-- what a number refers to; nothing where there is no such number
abbrev pub references_of : List (List ℕ) → ℕ → List ℕ
references_of references i = slice_index_or references i []

-- so many references, one after the other, lead from a to b
abbrev pub Walk : List (List ℕ) → ℕ → ℕ → ℕ → Type 0
Walk references a b zero = a ≡ b
Walk references a b (suc n) = (c : ℕ) × Contains (references_of references a) c × Walk references c b n

-- it reaches itself by one reference or more
abbrev pub IsCircular : List (List ℕ) → ℕ → Type 0
IsCircular references i = (n : ℕ) × Walk references i i (suc n)
