use Rattle.cite_markers_grammar.proofs.Laws.{read-refused, refused-read}
use Rattle.cite_markers_grammar.proofs.reading.opening_is_refused.Goals as goal

pub returns : goal.returns
returns c cs at = (read-refused cs at, refused-read cs at)
