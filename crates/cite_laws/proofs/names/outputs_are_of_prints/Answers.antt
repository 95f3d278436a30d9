use Rattle.cite_laws.proofs.Outputs.{outputs_are_of_prints}
use Rattle.cite_laws.proofs.names.outputs_are_of_prints.Goals as goal

pub returns : goal.returns
returns c = outputs_are_of_prints
