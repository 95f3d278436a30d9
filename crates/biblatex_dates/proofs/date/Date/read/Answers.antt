use Rattle.std.proofs.Common.{List, ℕ, Result, ap, sym, subst, ◌∙◌}
use Rattle.std.specs.Prelude.{IfOk}
use Rattle.biblatex_dates.specs.Shape.{shape_of, date_of}
use Rattle.biblatex_dates.specs.declared.date.Date.{Date}
use Rattle.biblatex_dates.specs.declared.error.TypeErrorKind.{TypeErrorKind}
use Rattle.biblatex_dates.proofs.WrittenAgain.{date_again}
use Rattle.biblatex_dates.proofs.ShapeExists.{IsDate, date_exists}
use Rattle.biblatex_dates.proofs.date.Date.read.Goals as goal

pub returns-clause-exists : goal.returns-clause-exists
returns-clause-exists c = subst (λ (r : Result Date TypeErrorKind). IfOk r IsDate) (sym c.read_date.ensures) (date_exists _)

pub returns-clause-back : goal.returns-clause-back
returns-clause-back c = λ d exists is. c.read_date.ensures ∙ ap (λ (t : List ℕ). date_of (shape_of t)) is ∙ date_again d exists
