use Rattle.cite_markers_grammar.proofs.Laws.{read-held, held-read}
use Rattle.cite_markers_grammar.proofs.reading.what_is_read_is_held.Goals as goal

pub returns : goal.returns
returns c cs ps = (read-held cs ps, held-read cs ps)
