use Rattle.driver_laws.proofs.SuffixesGiven.{nothing_changes}
use Rattle.driver_laws.proofs.rounds_that_give_nothing_change_nothing.Goals as goal

pub returns : goal.returns
returns c = nothing_changes
