use Rattle.std.proofs.Common.{take}
use Rattle.biblatex_fields.specs.Fields.{value_named}
use Rattle.biblatex_inherited_fields.specs.Views.{PassesOn}
use Rattle.biblatex_suppliers.specs.Suppliers.{supplied_fields}
use Rattle.biblatex_suppliers.specs.Written.{written_view}
use Rattle.biblatex_suppliers.proofs.made.put_all.Given as goal

abbrev pub invariant-loop-supplied : goal.invariant-loop-supplied
invariant-loop-supplied l = PassesOn l.fn.fields l.fields (λ q. value_named q (supplied_fields (written_view l.entries) (take l.supplied-index l.suppliers)))
