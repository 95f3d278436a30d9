use Rattle.driver_partitions.proofs.Laws.{rounds_law}
use Rattle.driver_partitions.proofs.rounds_give_to_classes.Goals as goal

pub returns : goal.returns
returns c = rounds_law
