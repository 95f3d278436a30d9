-- Fields that are written one after the other, with the moved ones at their places.
use Rattle.std.specs.Prelude.{ℕ, List, ◌∷◌}
use Rattle.std.specs.Fmt.{WritesInCalls}
use Rattle.std.specs.List.{flat_map}
use Rattle.biblatex_fields.specs.Fields.{Named}
use Rattle.biblatex_writing.specs.Order.{Row, merged}
use Rattle.biblatex_writing.specs.Written.{written_field}

-- a field was written, or passed over, and rows of moved fields are left: whatever fields follow, what is written of these with the rows that are left
-- is, with what took the target from w to v, written of all with the rows that were there
abbrev pub WritesField : {W : Type 0} → (W → List ℕ → W → Type 0) → List Named → W → List Row → Named → W → List Row → Type 0
WritesField took all w rows f v left =
    (fs : List Named) (u : _) → WritesInCalls took v (flat_map written_field (merged left fs all)) u → WritesInCalls took w (flat_map written_field (merged rows (f ∷ fs) all)) u
