use Rattle.literature_grammar.proofs.Refused.{read-refused, refused-read}
use Rattle.literature_grammar.proofs.selectors.refused_is_refusal.Goals as goal

pub returns : goal.returns
returns c cs fault = (read-refused cs fault, refused-read cs fault)
