use Rattle.std.proofs.Common.{sym, ◌∙◌}
use Rattle.literature_values.proofs.Equality.{Shows-FormatString}
use Rattle.literature_values.proofs.equal.are_equal_texts.Goals as goal

pub returns : goal.returns
returns c =
    let d = Shows-FormatString c.args.a.now c.args.b.now in
    (λ h. d.0 (sym c.eq.ensures ∙ h), λ e. c.eq.ensures ∙ d.1 e)
