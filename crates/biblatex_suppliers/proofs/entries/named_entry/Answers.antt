use Rattle.std.proofs.lemmas.Result.{IfOk-weaker}
use Rattle.biblatex_suppliers.proofs.MakingEntries.{made_there}
use Rattle.biblatex_suppliers.proofs.entries.named_entry.Goals as goal

pub returns : goal.returns
returns c = IfOk-weaker c.with_fields.result _ _ (λ d is. made_there c.args.entries.now c.args.number c.entry_there.result.now d _ _ c.entry_there.ensures is c.in_ok-fields.ensures) c.with_fields.ensures
