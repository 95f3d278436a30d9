use Rattle.driver_partitions.proofs.Laws.{in_one_part}
use Rattle.driver_partitions.proofs.indices_are_in_one_part.Goals as goal

pub returns : goal.returns
returns g c = in_one_part _
