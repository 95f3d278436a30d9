use Rattle.driver_partitions.proofs.Laws.{citations_law}
use Rattle.driver_partitions.proofs.citations_have_blocks.Goals as goal

pub returns : goal.returns
returns g c = citations_law _
