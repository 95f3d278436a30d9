-- How a text changes a writer that is to stop at its first error.
use Rattle.std.specs.Prelude.{◌≡◌, ℕ, List, OnOk, IsOk}
use Rattle.rendering_output.specs.declared.target.WriterTarget.{WriterTarget}

-- where there is no error at the end there was none before, and the writer took the text
abbrev pub TakesUntilError : {W : Type 0} → (W → List ℕ → W → Type 0) → WriterTarget W → List ℕ → WriterTarget W → Type 0
TakesUntilError took s bs t = OnOk t.result (IsOk s.result × (t.writer.ghost_name ≡ s.writer.ghost_name) × took s.writer.now bs t.writer.now)
