use Rattle.std.proofs.Common.{sym, ◌∙◌}
use Rattle.literature_values.proofs.EntryTypesEquality.{Shows-EntryType}
use Rattle.literature_values.proofs.equal.are_equal_types.Goals as goal

pub returns : goal.returns
returns c =
    let d = Shows-EntryType c.args.a.now c.args.b.now in
    (λ h. d.0 (sym c.eq.ensures ∙ h), λ e. c.eq.ensures ∙ d.1 e)
