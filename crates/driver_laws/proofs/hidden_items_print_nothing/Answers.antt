use Rattle.driver_laws.proofs.HiddenNothing.{hidden_nothing}
use Rattle.driver_laws.proofs.hidden_items_print_nothing.Goals as goal

pub returns : goal.returns
returns g c = hidden_nothing _
