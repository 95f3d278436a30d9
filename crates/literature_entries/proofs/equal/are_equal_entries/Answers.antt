use Rattle.std.proofs.Common.{sym, ◌∙◌}
use Rattle.literature_entries.proofs.EntriesDataEquality.{Shows-Entry}
use Rattle.literature_entries.proofs.equal.are_equal_entries.Goals as goal

pub returns : goal.returns
returns c =
    let d = Shows-Entry c.args.a.now c.args.b.now in
    (λ h. d.0 (sym c.eq.ensures ∙ h), λ e. c.eq.ensures ∙ d.1 e)
