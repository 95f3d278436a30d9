use Rattle.std.proofs.Common.{◌≡◌, ◌++◌}
use Rattle.biblatex_fields.specs.Fields.{value_named, named_fields_view}
use Rattle.biblatex_inherited_fields.specs.Views.{PassesOn, borrowed_fields_view}
use Rattle.biblatex_suppliers.proofs.made.copy_all.Given as goal

abbrev pub invariant-loop-name : goal.invariant-loop-name
invariant-loop-name l = PassesOn l.fn.fields l.fields (λ name. value_named name (borrowed_fields_view l.yielded)) × (l.from ≡ borrowed_fields_view l.yielded ++ named_fields_view l.name-iterator)
