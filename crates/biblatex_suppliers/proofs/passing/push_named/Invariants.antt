use Rattle.std.proofs.Common.{map, take, None}
use Rattle.std.specs.Prelude.{if◌then◌else◌}
use Rattle.biblatex_inherited_fields.specs.Table.{is_among, source_name}
use Rattle.biblatex_inherited_fields.specs.Views.{PassesOn}
use Rattle.biblatex_suppliers.specs.FieldNames.{field_name}
use Rattle.biblatex_suppliers.specs.Suppliers.{supplied_fields, seen}
use Rattle.biblatex_suppliers.specs.Written.{written_view}
use Rattle.biblatex_suppliers.proofs.passing.push_named.Given as goal

abbrev pub invariant-loop-name : goal.invariant-loop-name
invariant-loop-name l =
    PassesOn (supplied_fields (written_view l.entries) l.fn.suppliers.items) (supplied_fields (written_view l.entries) l.suppliers.items)
    (λ q. if is_among (map field_name (take l.name-index l.names)) q then seen (written_view l.entries) l.supplies l.reference (source_name l.to l.from q) else None)
