-- Parts of a list: its members that go together. They are said by the indices of the members and by what holds of all parts, not by how
-- these are found.
use Rattle.std.specs.Prelude.{◌≡◌, ◌↔◌, ℕ, ◌<◌, Bool, true, false, ◌==◌, ◌||◌, List, map, length, filter_map, count_by, slice_get, slice_index, All, Any, Contains, Option, Some}
use Rattle.std.specs.List.{range_with_len}
use Rattle.std.specs.List.Sorted.{IsStrictlyIncreasing}

-- A part of the numbers below a bound: its numbers rise, and with each of them go exactly those numbers below the bound that are in the
-- part. So each is itself below the bound and goes with itself. The list without numbers is a part too; `AreParts` asks for longer ones.
pub record IsPart (goes : ℕ → ℕ → Bool) (bound : ℕ) (part : List ℕ) : Type 0 where
  pub rises : IsStrictlyIncreasing part
  pub whole : (i j : ℕ) → Contains part i → Contains part j ↔ ((j < bound) × (goes i j ≡ true))

-- how many of the numbers below a bound go with one
abbrev pub how_many : (ℕ → ℕ → Bool) → ℕ → ℕ → ℕ
how_many goes bound i = count_by (goes i) (range_with_len 0 bound)

-- The parts of more than n numbers, and nothing else: each number with which more than n go, itself counted where it goes with itself,
-- stands in one. They rise by their numbers at index n, the first where n is 0 and the second where it is 1, so that none is there twice.
-- Where going together is no equivalence there may be no such parts.
pub record AreParts (goes : ℕ → ℕ → Bool) (bound n : ℕ) (parts : List (List ℕ)) : Type 0 where
  pub each : All (IsPart goes bound) parts
  pub long : All (λ part. n < length part) parts
  pub complete : (i : ℕ) → i < bound → n < how_many goes bound i → Any (λ part. Contains part i) parts
  pub ordered : IsStrictlyIncreasing (map (λ part. slice_index part n) parts)

-- whether there are two members, and they are alike
abbrev pub are_alike : {X : Type 0} → (X → X → Bool) → Option X → Option X → Bool
are_alike alike (Some x) (Some y) = alike x y
are_alike alike x y = false

-- whether two indices of a list go together: they are one index, whatever stands there, or the members there are alike
abbrev pub go_together : {X : Type 0} → (X → X → Bool) → List X → ℕ → ℕ → Bool
go_together alike xs i j = i == j || are_alike alike (slice_get xs i) (slice_get xs j)

-- the members at indices
abbrev pub members_at : {X : Type 0} → List X → List ℕ → List X
members_at xs part = filter_map (slice_get xs) part

-- The parts of a list that have more than n members, in the order of their members at index n: by indices, and then by members.
abbrev pub ArePartsOf : {X : Type 0} → (X → X → Bool) → ℕ → List X → List (List X) → Type 0
ArePartsOf alike n xs ps = (parts : List (List ℕ)) × AreParts (go_together alike xs) (length xs) n parts × (ps ≡ map (members_at xs) parts)
