-- What the code has and passes on.
use Rattle.std.specs.Global.{Global}
use Rattle.std.specs.Prelude.{◌≡◌, ℕ, List, map, String, string_bytes, Vec}
use Rattle.std.specs.Borrow.{Bor}
use Rattle.biblatex_text.specs.declared.spanned.Spanned.{Spanned}
use Rattle.biblatex_content.specs.declared.chunk.Chunk.{Chunk}
use Rattle.biblatex_fields.specs.Fields.{Named, value_named}
use Rattle.biblatex_fields.specs.Value.{field_value_view}
use Rattle.biblatex_inherited_fields.specs.Offered.{Table, first}

-- the value under each name
abbrev pub table_view : List Named → Table
table_view fs name = value_named name fs

-- what is lacking comes where it is offered
abbrev pub PassesOn : List Named → List Named → Table → Type 0
PassesOn old new offers = (name : List ℕ) → value_named name new ≡ first (value_named name old) (offers name)

-- the fields that are borrowed one by one
abbrev pub borrowed_fields_view : List (Bor (String Global) × Bor (Vec (Spanned Chunk) Global)) → List Named
borrowed_fields_view es = map (λ e. (string_bytes e.0.now, field_value_view e.1.now.items)) es
