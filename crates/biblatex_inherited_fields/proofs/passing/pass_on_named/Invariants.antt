use Rattle.std.proofs.Common.{take, None}
use Rattle.std.specs.Prelude.{if◌then◌else◌}
use Rattle.laws.specs.Borrowed.{borrowed}
use Rattle.biblatex_fields.specs.Fields.{value_named}
use Rattle.biblatex_entries.specs.Roles.{role_of}
use Rattle.biblatex_entries.specs.TypeNames.{type_name}
use Rattle.biblatex_inherited_fields.specs.Table.{is_among, source_name}
use Rattle.biblatex_inherited_fields.specs.Views.{PassesOn}
use Rattle.biblatex_inherited_fields.proofs.passing.pass_on_named.Given as goal

abbrev pub invariant-loop-name : goal.invariant-loop-name
invariant-loop-name l = PassesOn l.fn.fields l.fields (λ name. if is_among (borrowed (take l.name-index l.names)) name then value_named (source_name l.to (role_of (type_name l.from.entry_type)) name) l.from.fields else None)
