use Rattle.cite_laws.proofs.Uncited.{uncited}
use Rattle.cite_laws.proofs.locality.uncited_entries_change_nothing.Goals as goal

pub returns : goal.returns
returns c = uncited
