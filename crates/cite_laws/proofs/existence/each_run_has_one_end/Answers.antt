use Rattle.cite_laws.proofs.Ends.{one_end_there}
use Rattle.cite_laws.proofs.existence.each_run_has_one_end.Goals as goal

pub returns : goal.returns
returns c = one_end_there
