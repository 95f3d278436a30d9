use Rattle.std.proofs.Common.{sym, ◌∙◌}
use Rattle.literature_values.proofs.DatesEquality.{Shows-Date}
use Rattle.literature_values.proofs.equal.are_equal_dates.Goals as goal

pub returns : goal.returns
returns c =
    let d = Shows-Date c.args.a.now c.args.b.now in
    (λ h. d.0 (sym c.eq.ensures ∙ h), λ e. c.eq.ensures ∙ d.1 e)
