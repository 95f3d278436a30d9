use Rattle.cite.proofs.VerdictsAlike.{alike_verdicts}
use Rattle.cite.proofs.output_laws.alike_texts_have_one_verdict.Goals as goal

pub returns : goal.returns
returns c = alike_verdicts
