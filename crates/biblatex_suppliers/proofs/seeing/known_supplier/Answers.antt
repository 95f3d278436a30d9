use Rattle.std.proofs.Common.{Option, sym, ap, ◌∙◌}
use Rattle.biblatex_dates.specs.declared.date.Date.{Date}
use Rattle.biblatex_inheritance.specs.Resolved.{dated}
use Rattle.biblatex_suppliers.specs.FieldNames.{field_name}
use Rattle.biblatex_suppliers.specs.Suppliers.{undated_by}
use Rattle.biblatex_suppliers.specs.Written.{written_view}
use Rattle.biblatex_suppliers.proofs.seeing.known_supplier.Goals as goal

pub returns-in-Some : goal.returns-in-Some
returns-in-Some c =
    c.dated_supplier.ensures ∙ ap (λ (d : Option Date). dated d (undated_by (written_view c.args.entries.now) c.args.number c.args.known.now) (field_name c.args.name)) (sym c.in-Some.is)

pub returns-in-None : goal.returns-in-None
returns-in-None c =
    c.undated_supplier.ensures ∙ ap (λ (d : Option Date). dated d (undated_by (written_view c.args.entries.now) c.args.number c.args.known.now) (field_name c.args.name)) (sym c.in-None.is)
