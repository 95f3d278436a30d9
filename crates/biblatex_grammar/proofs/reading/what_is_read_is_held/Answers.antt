use Rattle.biblatex_grammar.proofs.Laws.{read-held, held-read}
use Rattle.biblatex_grammar.proofs.reading.what_is_read_is_held.Goals as goal

pub returns : goal.returns
returns c cs raw = (read-held cs raw, held-read cs raw)
