-- What the code has, without where it lies in memory.
use Rattle.std.specs.Prelude.{ℕ, List}
use Rattle.std.specs.Borrow.{Bor}
use Rattle.csl_features.specs.Features as specs
use Rattle.csl_features.specs.declared.feature.Feature.{Feature}

abbrev pub feature_view : Feature → specs.Feature
feature_view f = record { left = f.left; name = f.name.now }

-- what a row of the table wants of an attribute, and the row
abbrev pub wanted_view : Bor (List ℕ) × Bor (List ℕ) → specs.Wanted
wanted_view w = record { attribute = w.0.now; word = w.1.now }

abbrev pub row_view : Bor (List ℕ) × (Bor (List ℕ) × Bor (List ℕ)) × (Bor (List ℕ) × Bor (List ℕ)) × Bor (List ℕ) × Bor (List ℕ) → specs.Row
row_view (element, first, second, inside, name) = record { element = element.now; first = wanted_view first; second = wanted_view second; inside = inside.now; name = name.now }
