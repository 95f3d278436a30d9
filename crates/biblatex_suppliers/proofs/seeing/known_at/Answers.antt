use Rattle.biblatex_suppliers.proofs.SupplyingValues.{borrowed_at}
use Rattle.biblatex_suppliers.proofs.seeing.known_at.Goals as goal

pub returns : goal.returns
returns c = borrowed_at c.args.supplies.now c.args.number c.get.result _ c.get.ensures.lookup.1 c.get.ensures.lookup.3
