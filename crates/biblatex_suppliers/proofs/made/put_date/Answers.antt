use Rattle.std.proofs.Common.{Option, sym, ap, subst}
use Rattle.std.specs.Prelude.{OnOk}
use Rattle.biblatex_dates.specs.declared.date.Date.{Date}
use Rattle.biblatex_inheritance.specs.Resolved.{dated}
use Rattle.biblatex_inheritance.specs.Views.{IsTable, table_view}
use Rattle.biblatex_suppliers.proofs.made.put_date.Goals as goal

pub returns-in-Some : goal.returns-in-Some
returns-in-Some c = subst (λ (d : Option Date). OnOk c.set_date.result (IsTable c.set_date.new.fields (dated d (table_view c.args.fields.now)))) (sym c.in-Some.is) c.set_date.ensures

pub returns-in-None : goal.returns-in-None
returns-in-None c = λ q. ap (λ (d : Option Date). dated d (table_view c.args.fields.now) q) (sym c.in-None.is)
