-- What a reference offers. Fields are viewed as what stands under each name.
use Rattle.std.specs.Prelude.{ℕ, List, Option, Some, None, if◌then◌else◌}
use Rattle.biblatex_fields.specs.Value.{Value}
use Rattle.biblatex_entries.specs.declared.role.Role.{Role}
use Rattle.biblatex_inherited_fields.specs.Table.{inherits, source_name}

-- the value under each name, if there is one
abbrev pub Table : Type 0
Table = List ℕ → Option Value

-- the first of two values, or the second where there is no first
abbrev pub first : Option Value → Option Value → Option Value
first None other = other
first (Some v) other = Some v

-- what one reference offers under a name
abbrev pub offered : Role → Role → Table → Table
offered to from fields name = if inherits to name then fields (source_name to from name) else None
