-- What the code holds, as plain data.
use Rattle.std.specs.Prelude.{ℕ, List, Vec}
use Rattle.std.specs.Borrow.{Bor}
use Rattle.std.specs.Global.{Global}
use Rattle.biblatex_text.specs.declared.spanned.Spanned.{Spanned}
use Rattle.biblatex_content.specs.declared.chunk.Chunk.{Chunk}
use Rattle.biblatex.specs.Fields.{Named}
use Rattle.biblatex.specs.Value.{field_value_view}

-- a field of a borrowed name and borrowed chunks
abbrev pub borrowed_field_view : Bor (List ℕ) × Bor (Vec (Spanned Chunk) Global) → Named
borrowed_field_view f = (f.0.now, field_value_view f.1.now.items)
