use Rattle.std.proofs.Common.{sym, ◌∙◌}
use Rattle.literature_numbers.proofs.Equality.{Shows-Numeric}
use Rattle.literature_numbers.proofs.equal.are_equal_numerics.Goals as goal

pub returns : goal.returns
returns c =
    let d = Shows-Numeric c.args.a.now c.args.b.now in
    (λ h. d.0 (sym c.eq.ensures ∙ h), λ e. c.eq.ensures ∙ d.1 e)
