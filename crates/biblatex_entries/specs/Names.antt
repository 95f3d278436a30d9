-- The names that a field's text spells, as bytes.
use Rattle.std.specs.Prelude.{ℕ, ◌==◌, List, [], ◌∷◌, if◌then◌else◌, length}
use Rattle.std.specs.List.{flat_map, slice_split}
use Rattle.std.specs.Str.{trim}
use Rattle.laws.specs.Characters.{comma}

-- a text without white space at its ends, if anything is left
abbrev pub trimmed : List ℕ → List (List ℕ)
trimmed bs = if length (trim bs) == 0 then [] else trim bs ∷ []

-- the parts between commas, trimmed, but for empty ones
abbrev pub listed : List ℕ → List (List ℕ)
listed bs = flat_map trimmed (slice_split (λ b. b == comma) bs)
