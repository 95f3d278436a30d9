use Rattle.biblatex_reading_back.proofs.SettledBack.{reads_back}
use Rattle.biblatex_reading_back.proofs.entries.settled_entries_read_back.Goals as goal

pub returns : goal.returns
returns c = reads_back
