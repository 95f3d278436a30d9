use Rattle.std.proofs.Common.{Option, ap, ◌∙◌}
use Rattle.biblatex_suppliers.specs.FieldNames.{field_name}
use Rattle.biblatex_suppliers.specs.Suppliers.{seen_by}
use Rattle.biblatex_suppliers.specs.declared.supplier.Supplies.{Supplies}
use Rattle.biblatex_suppliers.specs.Written.{written_view}
use Rattle.biblatex_suppliers.proofs.seeing.seen_supplier.Goals as goal

pub returns-in-Some : goal.returns-in-Some
returns-in-Some c = c.known_supplier.ensures ∙ ap (λ (o : Option Supplies). seen_by (written_view c.args.entries.now) c.args.number o (field_name c.args.name)) c.in-Some.ensures

pub returns-in-None : goal.returns-in-None
returns-in-None c = ap (λ (o : Option Supplies). seen_by (written_view c.args.entries.now) c.args.number o (field_name c.args.name)) c.in-None.ensures
