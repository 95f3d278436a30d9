use Rattle.biblatex_inheritance.proofs.ResolvedDates.{borrowed_is}
use Rattle.biblatex_inheritance.proofs.dated.entry_at.Goals as goal

pub returns : goal.returns
returns c = borrowed_is c.args.entries.now c.args.number c.get.result _ c.get.ensures.lookup.1 c.get.ensures.lookup.3
