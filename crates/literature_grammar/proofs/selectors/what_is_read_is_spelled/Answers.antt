use Rattle.literature_grammar.proofs.Texts.{read-spelled, spelled-read}
use Rattle.literature_grammar.proofs.selectors.what_is_read_is_spelled.Goals as goal

pub returns : goal.returns
returns c cs x = (read-spelled cs x, spelled-read cs x)
