use Rattle.std.proofs.Common.{◌∙◌}
use Rattle.biblatex_suppliers.specs.Suppliers.{undated_by}
use Rattle.biblatex_suppliers.specs.Written.{written_view}
use Rattle.biblatex_suppliers.proofs.SeeingAlike.{stays_beside}
use Rattle.biblatex_suppliers.proofs.seeing.dated_supplier.Goals as goal

pub returns-in_default : goal.returns-in_default
returns-in_default c =
    c.undated_supplier.ensures
    ∙ stays_beside c.args.name c.args.date (undated_by (written_view c.args.entries.now) c.args.number c.args.known.now) c.in_default.not-Date c.in_default.not-Year c.in_default.not-Month c.in_default.not-Day
