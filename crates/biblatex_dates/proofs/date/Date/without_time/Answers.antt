use Rattle.std.proofs.Common.{sym, subst}
use Rattle.biblatex_dates.specs.Written.{SidesExist}
use Rattle.biblatex_dates.specs.declared.date.DateValue.{DateValue}
use Rattle.biblatex_dates.proofs.PartsExist.{timeless_value}
use Rattle.biblatex_dates.proofs.date.Date.without_time.Goals as goal

pub returns-clause-exists : goal.returns-clause-exists
returns-clause-exists c = λ e. subst (λ (v : DateValue). SidesExist v) (sym c.without_time.ensures) (timeless_value c.args.self.value e)
