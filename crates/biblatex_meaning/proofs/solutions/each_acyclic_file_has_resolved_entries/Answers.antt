use Rattle.biblatex_meaning.proofs.Entries.{resolved_entries, entries_resolved}
use Rattle.biblatex_meaning.proofs.solutions.each_acyclic_file_has_resolved_entries.Goals as goal

pub returns : goal.returns
returns c read references long none = (resolved_entries read references, entries_resolved read references long none)
