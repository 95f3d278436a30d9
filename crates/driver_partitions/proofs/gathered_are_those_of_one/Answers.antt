use Rattle.driver_partitions.proofs.Laws.{gathered_of_one}
use Rattle.driver_partitions.proofs.gathered_are_those_of_one.Goals as goal

pub returns : goal.returns
returns g c = gathered_of_one _
