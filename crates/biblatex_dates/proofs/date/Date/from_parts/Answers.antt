use Rattle.std.proofs.Common.{Option, sym, subst}
use Rattle.std.specs.Prelude.{IfSome}
use Rattle.biblatex_dates.specs.declared.date.Date.{Date}
use Rattle.biblatex_dates.proofs.ShapeExists.{IsDate}
use Rattle.biblatex_dates.proofs.PartsExist.{parts_exist}
use Rattle.biblatex_dates.proofs.date.Date.from_parts.Goals as goal

pub returns-clause-exists : goal.returns-clause-exists
returns-clause-exists c = subst (λ (r : Option Date). IfSome r IsDate) (sym c.dated_by_parts.ensures) (parts_exist _ _ _)
