use Rattle.driver_laws.proofs.DocumentsAlike.{alike_entries}
use Rattle.driver_laws.proofs.alike_entries_give_one.Goals as goal

pub returns : goal.returns
returns g c = alike_entries _
