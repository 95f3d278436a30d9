use Rattle.biblatex_laws.proofs.Between.{unreached_between}
use Rattle.biblatex_laws.proofs.joined.unreached_entries_between_change_nothing.Goals as goal

pub returns : goal.returns
returns c = unreached_between
