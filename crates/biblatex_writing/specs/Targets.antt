-- How texts change a text in memory, as a target that is handed nothing after the first refused request.
use Rattle.std.specs.Prelude.{◌≡◌, ℕ, List, ◌++◌, OnOk, IsOk, string_bytes}
use Rattle.biblatex_writing.specs.declared.target.StringTarget.{StringTarget}

-- where there is memory at the end there was before, and the text stands after what stood there
abbrev pub TakesUntilFull : StringTarget → List ℕ → StringTarget → Type 0
TakesUntilFull s bytes t = OnOk t.result (IsOk s.result × (string_bytes t.text ≡ string_bytes s.text ++ bytes))
