use Rattle.cite.proofs.SameVerdicts.{same_verdicts}
use Rattle.cite.proofs.output_laws.rewriting_has_the_same_verdicts.Goals as goal

pub returns : goal.returns
returns c = same_verdicts
