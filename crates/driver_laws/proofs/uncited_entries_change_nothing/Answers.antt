use Rattle.driver_laws.proofs.UncitedEntries.{uncited_entries}
use Rattle.driver_laws.proofs.uncited_entries_change_nothing.Goals as goal

pub returns : goal.returns
returns g c = uncited_entries _
