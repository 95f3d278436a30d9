-- Cited entries, each known by its index among them.
use Rattle.std.specs.Prelude.{ℕ, Bool, not, List, [], ◌∷◌, filter, filter_map, position}
use Rattle.std.specs.List.{position_or_len}
use Rattle.rendering_entries.specs.Answers.{Answers}

-- A cited entry: its index among the entries that are cited, in the order of their first cites, and what it answers.
pub record CitedEntry : Type 0 where
  pub index : ℕ
  pub answers : Answers

-- each member once, where it occurs first
abbrev pub once : {X : Type 0} → (X → X → Bool) → List X → List X
once same [] = []
once same (x ∷ xs) = x ∷ filter (λ y. not (same x y)) (once same xs)

-- the index of an entry among those that are cited; of another entry, how many they are
abbrev pub index_among : {E : Type 0} → (E → E → Bool) → List E → E → ℕ
index_among same cited e = position_or_len (same e) (once same cited)

-- the indices of entries one after the other; those that are not cited have none
abbrev pub indices_among : {E : Type 0} → (E → E → Bool) → List E → List E → List ℕ
indices_among same cited es = filter_map (λ e. position (same e) (once same cited)) es
