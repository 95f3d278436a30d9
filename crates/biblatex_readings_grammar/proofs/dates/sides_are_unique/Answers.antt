use Rattle.biblatex_readings_grammar.proofs.DateAgain.{unique}
use Rattle.biblatex_readings_grammar.proofs.dates.sides_are_unique.Goals as goal

pub returns : goal.returns
returns c = unique
