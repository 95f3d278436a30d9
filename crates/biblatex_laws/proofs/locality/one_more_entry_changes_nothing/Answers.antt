use Rattle.biblatex_laws.proofs.OneMore.{one_more}
use Rattle.biblatex_laws.proofs.locality.one_more_entry_changes_nothing.Goals as goal

pub returns : goal.returns
returns c = one_more
