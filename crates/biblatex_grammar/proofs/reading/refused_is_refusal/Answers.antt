use Rattle.biblatex_grammar.proofs.Refused.{read-refused, refused-read}
use Rattle.biblatex_grammar.proofs.reading.refused_is_refusal.Goals as goal

pub returns : goal.returns
returns c cs fault at = (read-refused cs fault at, refused-read cs fault at)
