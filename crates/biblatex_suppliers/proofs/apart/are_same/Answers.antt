use Rattle.std.proofs.Common.{sym, ◌∙◌}
use Rattle.biblatex_suppliers.proofs.SameValues.{same_chunks}
use Rattle.biblatex_suppliers.proofs.apart.are_same.Goals as goal

pub returns : goal.returns
returns c = λ so. same_chunks c.args.some.now c.args.others.now (sym c.eq.ensures ∙ so)
