use Rattle.driver_partitions.proofs.Laws.{parts_of_two}
use Rattle.driver_partitions.proofs.parts_are_those_of_two.Goals as goal

pub returns : goal.returns
returns g c = parts_of_two _
