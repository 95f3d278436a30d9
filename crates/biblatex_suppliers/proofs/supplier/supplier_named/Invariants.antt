use Rattle.std.proofs.Common.{◌≡◌, drop}
use Rattle.biblatex_suppliers.specs.Suppliers.{supplier_named}
use Rattle.biblatex_suppliers.proofs.supplier.supplier_named.Given as goal

abbrev pub invariant-loop-supplied : goal.invariant-loop-supplied
invariant-loop-supplied l = supplier_named l.name (drop l.supplied-index l.suppliers) ≡ supplier_named l.name l.suppliers
