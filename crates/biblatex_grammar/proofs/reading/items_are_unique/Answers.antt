use Rattle.biblatex_grammar.proofs.Laws.{unique}
use Rattle.biblatex_grammar.proofs.reading.items_are_unique.Goals as goal

pub returns : goal.returns
returns c = unique
