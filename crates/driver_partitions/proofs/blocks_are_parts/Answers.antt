use Rattle.driver_partitions.proofs.Laws.{blocks_law}
use Rattle.driver_partitions.proofs.blocks_are_parts.Goals as goal

pub returns : goal.returns
returns g c = blocks_law _
