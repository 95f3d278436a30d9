use Rattle.driver_laws.proofs.EntriesInStates.{entries_in_states}
use Rattle.driver_laws.proofs.entries_have_one_number_and_state.Goals as goal

pub returns : goal.returns
returns g c = entries_in_states _
