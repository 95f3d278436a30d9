use Rattle.cite_markers_grammar.proofs.Laws.{unique}
use Rattle.cite_markers_grammar.proofs.reading.pieces_are_unique.Goals as goal

pub returns : goal.returns
returns c = unique
