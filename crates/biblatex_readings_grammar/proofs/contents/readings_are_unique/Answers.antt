use Rattle.biblatex_readings_grammar.proofs.ContentLaws.{unique}
use Rattle.biblatex_readings_grammar.proofs.contents.readings_are_unique.Goals as goal

pub returns : goal.returns
returns c = unique
