use Rattle.cite_laws.proofs.Verdicts.{one_verdict_there}
use Rattle.cite_laws.proofs.existence.each_call_has_one_verdict.Goals as goal

pub returns : goal.returns
returns c = one_verdict_there
