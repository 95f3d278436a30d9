-- Which numbers reach themselves, and an order of all.
use Rattle.std.specs.Prelude.{◌≡◌, ℕ, ◌<◌, List, Bool, false, length, take, All, Contains, count_by, slice_index, slice_index_or, ◌==◌, ◌↔◌, IsTrue}
use Rattle.reference_graph.specs.References.{references_of, IsCircular}

-- which numbers are marked as circular, and the order
pub record Arranged : Type 0 where
  pub circular : List Bool
  pub order : List ℕ

-- whether the number is marked; one that there is not is not marked
abbrev pub is_marked : List Bool → ℕ → Bool
is_marked marks i = slice_index_or marks i false

-- those that reach themselves are marked, and no others
abbrev pub MarksCircular : List (List ℕ) → List Bool → Type 0
MarksCircular references marks = (i : ℕ) → IsTrue (is_marked marks i) ↔ IsCircular references i

-- unless it is circular, the number at index k stands after all that it refers to and that there is
abbrev pub StandsAfter : List (List ℕ) → List ℕ → ℕ → Type 0
StandsAfter references order k =
    (IsCircular references (slice_index order k) → ⊥) → (r : ℕ) → Contains (references_of references (slice_index order k)) r → r < length references → Contains (take k order) r

-- each number once, no other, and each that is not circular after all that it refers to
pub record IsOrder (references : List (List ℕ)) (order : List ℕ) : Type 0 where
  pub once : (i : ℕ) → i < length references → count_by (λ k. k == i) order ≡ 1
  pub below : All (λ i. i < length references) order
  pub following : (k : ℕ) → k < length order → StandsAfter references order k
