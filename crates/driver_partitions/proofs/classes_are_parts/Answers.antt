use Rattle.driver_partitions.proofs.Laws.{classes_law}
use Rattle.driver_partitions.proofs.classes_are_parts.Goals as goal

pub returns : goal.returns
returns c = classes_law
